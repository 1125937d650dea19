-- Definitions: what a request on the page port asks for, or why it is refused.
use Rattle.std.specs.Prelude.{◌==◌, nat_lt, ℕ, List, [], ◌∷◌, length, take, drop, map, codes, Bool, true, false}
use Rattle.std.specs.Prelude.{Option, Some, None, option_map, Result, Ok, Err, if◌then◌else◌, ◌&&◌, ◌||◌, not}
use Rattle.std.specs.Char.{to_ascii_lowercase, is_ascii_digit}
use Rattle.std.specs.List.{list_all, before_first, after_first, position_or_len}
use Rattle.std.specs.Str.{bytes_eq}
use Rattle.http.specs.declared.request.Parts.{Parts}
use Rattle.http_header.specs.HeaderMap.{get}
use Rattle.http_uri.specs.Uri.{uri_authority, uri_path, uri_query, uri_scheme}
use Rattle.till_request.specs.declared.act.LineFault.{LineFault}
use Rattle.till_request.specs.Grammar.{number}
use Rattle.page_port.specs.declared.routing.Refusal.{Refusal}
use Rattle.page_port.specs.declared.routing.Refusal.TheVariants as refusals
use Rattle.page_port.specs.declared.routing.Endpoint.{Endpoint}
use Rattle.page_port.specs.declared.routing.Endpoint.TheVariants as endpoints

-- whether this text, which follows a host's name, is empty or a port: a colon (58) and decimal digits, perhaps none (RFC
-- 3986, section 3.2.3)
abbrev pub is_empty_or_port : List ℕ → Bool
is_empty_or_port [] = true
is_empty_or_port (b ∷ digits) = b == 58 && list_all is_ascii_digit digits

-- whether a host (the first argument) has this name (the second), in upper or lower case, with any port or none
abbrev pub is_named : List ℕ → List ℕ → Bool
is_named host name =
    if nat_lt (length host) (length name) then false
    else bytes_eq (map to_ascii_lowercase (take (length name) host)) (map to_ascii_lowercase name)
    && is_empty_or_port (drop (length name) host)

-- whether a host is localhost, 127.0.0.1 or [::1], in upper or lower case, with any port or none
abbrev pub is_loopback_host : List ℕ → Bool
is_loopback_host host = is_named host (codes "localhost") || is_named host (codes "127.0.0.1") || is_named host (codes "[::1]")

-- the value of the header field `host`, or None if the request has no such field
abbrev pub field_host : Parts → Option (List ℕ)
field_host head = option_map (λ v. v.bytes) (get head.headers (codes "host"))

-- whether a request that names this host is allowed: the host must be this machine (localhost, 127.0.0.1 or [::1]), or
-- None (no host is named)
abbrev pub is_allowed_host : Option (List ℕ) → Bool
is_allowed_host None = true
is_allowed_host (Some host) = is_loopback_host host

-- Whether each host that a request names is this machine. A target in absolute form (RFC 9112, section 3.2.2) names one
-- before its path, which must have no user's name before it (RFC 9110, section 4.2.4); the field `host` names one too.
abbrev pub is_for_this_machine : Parts → Bool
is_for_this_machine head = is_allowed_host (uri_authority head.uri) && is_allowed_host (field_host head)

-- whether a target's scheme is http, or there is none, since the target is a path
abbrev pub is_allowed_scheme : Option (List ℕ) → Bool
is_allowed_scheme None = true
is_allowed_scheme (Some scheme) = bytes_eq scheme (codes "http")

abbrev pub is_of_http : Parts → Bool
is_of_http head = is_allowed_scheme (uri_scheme head.uri)

abbrev pub is_get_or_head : List ℕ → Bool
is_get_or_head method = bytes_eq method (codes "GET") || bytes_eq method (codes "HEAD")

-- the endpoint `Journal` for this day's lines after the entry with this number, or, for a fault, the refusal `BadQuery`
abbrev pub lines_after : Option ℕ → Result ℕ LineFault → Result Endpoint Refusal
lines_after day (Ok n) = Ok (endpoints.Journal day n)
lines_after day (Err _) = Err refusals.BadQuery

-- What this query asks for, of this day or, if it is None, of the day that is served:
-- - None: the journal's lines from the first entry on
-- - "after=" and a number below 2^32, in decimal without leading zeros: the lines after the entry with this number
-- - any other query: it is refused
abbrev pub lines_in : Option ℕ → Option (List ℕ) → Result Endpoint Refusal
lines_in day None = Ok (endpoints.Journal day 0)
lines_in day (Some query) =
    if bytes_eq (take 6 query) (codes "after=") then lines_after day (number 32 (drop 6 query)) else Err refusals.BadQuery

-- What the rest of a query asks for, of the day with this number, which is from 1.
abbrev pub lines_of_day : Result ℕ LineFault → Option (List ℕ) → Result Endpoint Refusal
lines_of_day (Ok day) rest = if day == 0 then Err refusals.BadQuery else lines_in (Some day) rest
lines_of_day (Err _) rest = Err refusals.BadQuery

-- what is behind the first "&" (38) of a query, if it has one
abbrev pub behind_and : List ℕ → Option (List ℕ)
behind_and query =
    if nat_lt (position_or_len (λ byte. byte == 38) query) (length query) then Some (after_first (λ byte. byte == 38) query) else None

-- what is behind "day=" in the first part of a query, if it begins so
abbrev pub day_digits : List ℕ → Option (List ℕ)
day_digits first = if bytes_eq (take 4 first) (codes "day=") then Some (drop 4 first) else None

-- what a query asks for, by the digits of its day, if it has one
abbrev pub journal_by : List ℕ → Option (List ℕ) → Result Endpoint Refusal
journal_by query None = lines_in None (Some query)
journal_by query (Some digits) = lines_of_day (number 32 digits) (behind_and query)

-- What this query of the path "/journal" asks for. Before the first "&", or the end, it can have "day=" and the day's
-- number, in decimal without leading zeros; then the rest, if there is one, says which lines of this day.
abbrev pub journal_at : Option (List ℕ) → Result Endpoint Refusal
journal_at None = lines_in None None
journal_at (Some query) = journal_by query (day_digits (before_first (λ byte. byte == 38) query))

-- the endpoint at a path with this query, or why the request is refused
abbrev pub endpoint_at : List ℕ → Option (List ℕ) → Result Endpoint Refusal
endpoint_at path query =
    if bytes_eq path (codes "/") then Ok endpoints.Page
    else if bytes_eq path (codes "/metrics") then Ok endpoints.Metrics
    else if bytes_eq path (codes "/healthz") then Ok endpoints.Health
    else if bytes_eq path (codes "/journal") then journal_at query
    else Err refusals.NoSuchPath

-- the endpoint that a request with this head asks for, or why the request is refused
abbrev pub requested_endpoint : Parts → Result Endpoint Refusal
requested_endpoint head =
    if not (is_for_this_machine head) then Err refusals.OtherHost
    else if not (is_of_http head) then Err refusals.OtherScheme
    else if not (is_get_or_head head.method) then Err refusals.OtherMethod
    else endpoint_at (uri_path head.uri) (uri_query head.uri)
