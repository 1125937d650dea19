-- Definitions: the answers to requests on the page port, a port on which a browser looks at the site.
use Rattle.std.specs.Prelude.{◌≡◌, ◌⊎◌, ◌==◌, nat_lt, ℕ, List, [], ◌∷◌, ◌++◌, length, map, codes, Bool, true, Option, Some, None, Result, Ok, Err}
use Rattle.std.specs.Prelude.{if◌then◌else◌, false, unwrap_or}
use Rattle.std.specs.Fmt.{decimal}
use Rattle.http1.specs.Fields.{Header}
use Rattle.http_server.specs.Response.{fields_of}
use Rattle.http_server.specs.declared.response.Response.{Response}
use Rattle.pages.specs.declared.station.Health.{Health}
use Rattle.pages.specs.declared.station.Health.TheVariants as health
use Rattle.pages.specs.Health.{health_of, health_text}
use Rattle.site_lock.specs.Looks.{CanBeUnderLock}
use Rattle.site_lock.specs.LockedSites.{LockedSiteValue}
use Rattle.site_lock.specs.Passes.{Opened}
use Rattle.pages.specs.declared.station.RoleCounts.{RoleCounts}
use Rattle.page_port.specs.Counting.{roles_with_doors}
use Rattle.page_port.specs.Shown.{AreLinesBehind}
use Rattle.page_port.specs.declared.connections.ConnectionCounts.{ConnectionCounts}
use Rattle.page_port.specs.declared.routing.Refusal.{Refusal}
use Rattle.page_port.specs.declared.routing.Refusal.TheVariants as refusals
use Rattle.page_port.specs.declared.routing.Endpoint.{Endpoint}
use Rattle.page_port.specs.declared.routing.Endpoint.TheVariants as endpoints
use Rattle.page_port.specs.declared.page_answer.MediaType.{MediaType}
use Rattle.page_port.specs.declared.page_answer.MediaType.TheVariants as kinds
use Rattle.page_port.specs.declared.page_answer.PageAnswer.{PageAnswer}

-- the HTTP status of a refusal (RFC 9110, section 15; a scheme that isn't served: section 7.4)
abbrev pub status_of : Refusal → ℕ
status_of refusals.OtherHost = 403
status_of refusals.OtherScheme = 421
status_of refusals.NoSuchPath = 404
status_of refusals.OtherMethod = 405
status_of refusals.BadQuery = 400

abbrev pub type_of : MediaType → List ℕ
type_of kinds.Html = codes "text/html; charset=utf-8"
type_of kinds.Metrics = codes "text/plain; version=0.0.4; charset=utf-8"
type_of kinds.Plain = codes "text/plain; charset=utf-8"

-- The header fields of an answer whose text is of this kind:
-- - `content-type` gives the type of the text.
-- - `cache-control` forbids storing the answer.
-- - `x-content-type-options` forbids guessing another type.
-- - `content-security-policy` forbids a page to load anything or to run a script.
-- - `connection` says that the connection ends after the answer.
abbrev pub fields : MediaType → List Header
fields kind =
    (codes "content-type", type_of kind)
    ∷ (codes "cache-control", codes "no-store")
    ∷ (codes "x-content-type-options", codes "nosniff")
    ∷ (codes "content-security-policy", codes "default-src 'none'; style-src 'unsafe-inline'")
    ∷ (codes "connection", codes "close")
    ∷ []

-- the header field that names the served day, in an answer that does
abbrev pub day_field : Option ℕ → List Header
day_field None = []
day_field (Some day) = (codes "x-fc-day", decimal day) ∷ []

-- the header fields of the answer to a request that is refused for this reason
abbrev pub fields_refusing : Refusal → List Header
fields_refusing refusals.OtherMethod = fields kinds.Plain ++ (codes "allow", codes "GET, HEAD") ∷ []
fields_refusing refusals.OtherHost = fields kinds.Plain
fields_refusing refusals.OtherScheme = fields kinds.Plain
fields_refusing refusals.NoSuchPath = fields kinds.Plain
fields_refusing refusals.BadQuery = fields kinds.Plain

-- the text of the answer to a request that is refused for this reason
abbrev pub text_refusing : Refusal → List ℕ
text_refusing refusals.OtherHost = codes "this page is for localhost, 127.0.0.1 and [::1] alone\n"
text_refusing refusals.OtherScheme = codes "only http is answered here\n"
text_refusing refusals.NoSuchPath = codes "nothing is here: try /, /metrics, /healthz or /journal?day=D&after=N\n"
text_refusing refusals.OtherMethod = codes "only GET and HEAD are answered here\n"
text_refusing refusals.BadQuery =
    codes "write after=N, day=D or day=D&after=N, with N from 0 and D from 1 to 4294967295 in plain digits\n"

-- the HTTP status of the answer that reports this health
abbrev pub status_of_health : Health → ℕ
status_of_health health.Healthy = 200
status_of_health health.JournalFailed = 503
status_of_health health.NearlyFull = 503
status_of_health (health.NoWorker _) = 503
status_of_health health.OtherConfig = 503

-- The answer has the status 200, and a text of this kind.
abbrev pub IsOkOfKind : MediaType → PageAnswer → Type 0
IsOkOfKind kind page_answer = (page_answer.status ≡ 200) × (page_answer.kind ≡ kind)

-- The answer reports this health of the station: its status is that of the health, and its plain text describes the
-- health, with an LF at the end.
abbrev pub ReportsHealth : Health → PageAnswer → Type 0
ReportsHealth health page_answer =
    (page_answer.status ≡ status_of_health health) × (page_answer.kind ≡ kinds.Plain) × (page_answer.text ≡ health_text health ++ codes "\n")

-- The answer reports the health of what the lock protected at one moment: a journal that had failed then is reported,
-- and the workers of each role that has a door are counted. `is_given` says whether the day has the given configuration.
abbrev pub IsHealthOf : Opened → Type 0 → Bool → ConnectionCounts → PageAnswer → Type 0
IsHealthOf f may_fail is_given connections page_answer =
    (held : LockedSiteValue) × (has_failed : Bool) × (role_counts : List RoleCounts) × CanBeUnderLock f may_fail held
    × (held.journal_failed ≡ true → has_failed ≡ true)
    × (map (λ (counts : RoleCounts). counts.role) role_counts ≡ roles_with_doors connections)
    × ReportsHealth (health_of has_failed (length held.site.history) is_given role_counts) page_answer

-- the status where another day is asked for than the one that is served: a day that is over, or one that hasn't begun
abbrev pub status_of_other : ℕ → ℕ → ℕ
status_of_other day asked = if nat_lt asked day then 409 else 404

-- the text of that answer
abbrev pub text_of_other : ℕ → ℕ → List ℕ
text_of_other day asked =
    if nat_lt asked day
    then codes "day " ++ (decimal asked ++ (codes " is over: day " ++ (decimal day ++ codes " is served\n")))
    else codes "day " ++ (decimal asked ++ (codes " hasn't begun: day " ++ (decimal day ++ codes " is served\n")))

-- The answer says that another day than this one is asked for.
abbrev pub IsOfOtherDay : ℕ → ℕ → PageAnswer → Type 0
IsOfOtherDay day asked page_answer =
    (page_answer.kind ≡ kinds.Plain) × (page_answer.status ≡ status_of_other day asked) × (page_answer.text ≡ text_of_other day asked)

-- no day is asked for, or this one
abbrev pub asks_for : ℕ → Option ℕ → Bool
asks_for day None = true
asks_for day (Some asked) = asked == day

-- The answer has the journal's lines behind this entry. (The first argument: of this day.) Or it says that another day is
-- asked for.
abbrev pub AnswersDay : Bool → Opened → Type 0 → ℕ → ℕ → ℕ → PageAnswer → Type 0
AnswersDay true f may_fail day asked after page_answer =
    IsOkOfKind kinds.Plain page_answer × AreLinesBehind f may_fail after page_answer.text
AnswersDay false f may_fail day asked after page_answer = IsOfOtherDay day asked page_answer

-- The answer names this day, which is served. It has the lines of the day's journal behind an entry, if no other day is
-- asked for.
abbrev pub AnswersJournal : Opened → Type 0 → ℕ → Option ℕ → ℕ → PageAnswer → Type 0
AnswersJournal f may_fail day asked after page_answer =
    (page_answer.day ≡ Some day) × AnswersDay (asks_for day asked) f may_fail day (unwrap_or asked day) after page_answer

-- The answer fits this endpoint, of a site under a lock, the number of its day, whether this has the given configuration,
-- and the counts of its connections:
-- - `Page`: the status is 200, and the text is of the kind `Html`
-- - `Metrics`: the status is 200, and the text is of the kind `Metrics`
-- - `Health`: the answer reports the health of one moment
-- - `Journal`: the status is 200, the text is of the kind `Plain`, and it is the lines behind this entry; or another day
--   is asked for, and the answer says so
abbrev pub FitsEndpoint : Opened → Type 0 → ℕ → Bool → ConnectionCounts → Endpoint → PageAnswer → Type 0
FitsEndpoint f may_fail day is_given connections endpoints.Page page_answer = IsOkOfKind kinds.Html page_answer
FitsEndpoint f may_fail day is_given connections endpoints.Metrics page_answer = IsOkOfKind kinds.Metrics page_answer
FitsEndpoint f may_fail day is_given connections endpoints.Health page_answer = IsHealthOf f may_fail is_given connections page_answer
FitsEndpoint f may_fail day is_given connections (endpoints.Journal asked after) page_answer = AnswersJournal f may_fail day asked after page_answer

-- The answer reports that memory ran out: it has the status 503 and the plain text "out of memory", with an LF.
abbrev pub ReportsOutOfMemory : PageAnswer → Type 0
ReportsOutOfMemory page_answer = (page_answer.status ≡ 503) × (page_answer.kind ≡ kinds.Plain) × (page_answer.text ≡ codes "out of memory\n")

-- The response refuses a request for this reason: it has the status, the fields and the text for the reason.
pub record Refuses (refusal : Refusal) (response : Response) : Type 0 where
  pub status : response.status ≡ status_of refusal
  pub fields : fields_of response ≡ fields_refusing refusal
  pub text : response.body.items ≡ text_refusing refusal

-- The response has the status and the text of `page_answer`, and the header fields for its kind of text and its day.
pub record HasAnswer (page_answer : PageAnswer) (response : Response) : Type 0 where
  pub status : response.status ≡ page_answer.status
  pub fields : fields_of response ≡ fields page_answer.kind ++ day_field page_answer.day
  pub text : response.body.items ≡ page_answer.text

-- The response answers a request for which `requested_endpoint` gives this result:
-- - a refusal: the response refuses the request for this reason
-- - an endpoint: the response has an answer that fits the endpoint, or reports that memory ran out
abbrev pub IsAnswer : Opened → Type 0 → ℕ → Bool → ConnectionCounts → Result Endpoint Refusal → Response → Type 0
IsAnswer f may_fail day is_given connections (Err refusal) response = Refuses refusal response
IsAnswer f may_fail day is_given connections (Ok endpoint) response =
    (page_answer : PageAnswer) × HasAnswer page_answer response
    × (FitsEndpoint f may_fail day is_given connections endpoint page_answer ⊎ ReportsOutOfMemory page_answer)
