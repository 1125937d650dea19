-- Definitions: which connections speak another protocol than that of tills, dispensers and the owner, and what of their
-- bytes is let in. The methods are those of HTTP (source: RFC 9110, section 9.3), PATCH (source: RFC 5789), and PRI,
-- with which HTTP/2 begins (source: RFC 9113, section 3.4). A request of HTTP begins with a method, a blank and a target,
-- and a target that is a path begins with a slash (source: RFC 9112, sections 3 and 3.2.1). The rest is from this project.
use Rattle.std.specs.Prelude.{ℕ, nat_lt, ◌==◌, ◌&&◌, ◌||◌, Bool, false, nat_le, not, List, [], ◌∷◌, codes, bytes_eq, drop, length, take_while, if◌then◌else◌}
use Rattle.std.specs.List.{list_any}

abbrev pub methods : List (List ℕ)
methods =
    codes "GET" ∷ codes "HEAD" ∷ codes "POST" ∷ codes "PUT" ∷ codes "DELETE" ∷ codes "CONNECT" ∷ codes "OPTIONS" ∷ codes "TRACE" ∷ codes "PATCH" ∷ codes "PRI" ∷ []

-- A byte below 32 or 127, such as the first one of TLS. An LF (10) isn't among them: an empty line is a line.
abbrev pub is_control : ℕ → Bool
is_control b = (nat_lt b 32 && not (b == 10)) || b == 127

-- the bytes that end a word: blank, TAB, CR and LF
abbrev pub ends_word : ℕ → Bool
ends_word b = b == 32 || b == 9 || b == 13 || b == 10

-- the bytes before the first that ends a word; all, if none does
abbrev pub first_word : List ℕ → List ℕ
first_word bytes = take_while (λ b. not (ends_word b)) bytes

abbrev pub is_method : List ℕ → Bool
is_method word = list_any (λ method. bytes_eq method word) methods

-- the bytes of a connection begin with a control byte, or their first word is a method
abbrev pub begins_otherwise : List ℕ → Bool
begins_otherwise [] = false
begins_otherwise (b ∷ bytes) = is_control b || is_method (first_word (b ∷ bytes))

-- a blank and a slash come first
abbrev pub starts_path : List ℕ → Bool
starts_path [] = false
starts_path (a ∷ []) = false
starts_path (a ∷ b ∷ bytes) = a == 32 && b == 47

-- Behind the first word, whatever it is, come a blank and a slash: no line of ours has a second word that begins so. A
-- word of more than 8,400 bytes makes a line that is too long anyway.
abbrev pub asks_for_path : List ℕ → Bool
asks_for_path bytes = nat_le (length (first_word bytes)) 8400 && starts_path (drop (length (first_word bytes)) bytes)

abbrev pub speaks_another_protocol : List ℕ → Bool
speaks_another_protocol bytes = begins_otherwise bytes || asks_for_path bytes

-- what a session gets to see of a connection that sends these bytes
abbrev pub admitted : List ℕ → List ℕ
admitted bytes = if speaks_another_protocol bytes then [] else bytes
