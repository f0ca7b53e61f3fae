-- What a busy server asks for.
use Rattle.std.specs.Prelude.{ℕ, ◌*◌, ◌==◌, List, Bool, ◌&&◌, ◌||◌, not, min, length, codes, Option, Some, None, option_and_then, option_map, if◌then◌else◌}
use Rattle.std.specs.Char.{is_ascii_digit}
use Rattle.std.specs.Duration.{max_nanos}
use Rattle.std.specs.List.{list_all}
use Rattle.std.specs.Str.Parse.{digits_value}
use Rattle.http.specs.Response.{head_of}
use Rattle.http_header.specs.HeaderMap.{get}
use Rattle.oauth2_wire.specs.Reply.{HttpResponse}

-- the server asks the client to try again later: 429 (RFC 6585, 4) or 503 (RFC 9110, 15.6.4)
abbrev pub is_busy : ℕ → Bool
is_busy status = status == 429 || status == 503

-- the value is one or more decimal digits: `delay-seconds` of RFC 9110, 10.2.3
abbrev pub is_delay : List ℕ → Bool
is_delay value = not (length value == 0) && list_all is_ascii_digit value

-- the seconds that a Retry-After value says; a date says none
abbrev pub delay_seconds : List ℕ → Option ℕ
delay_seconds value = if is_delay value then Some (digits_value 10 value) else None

-- the seconds that the first Retry-After of a reply says, if it says any
abbrev pub retry_after : HttpResponse → Option ℕ
retry_after reply =
    option_and_then (λ value. delay_seconds value.bytes)
    (get (head_of reply).headers (codes "retry-after"))

-- so many seconds in nanoseconds, or the longest `Duration` if that is less
abbrev pub nanoseconds_of : ℕ → ℕ
nanoseconds_of seconds = min max_nanos (seconds * 1_000_000_000)

-- the wait that a reply asks for, in nanoseconds, if it asks for one
abbrev pub asked_wait : HttpResponse → Option ℕ
asked_wait reply = option_map nanoseconds_of (retry_after reply)
