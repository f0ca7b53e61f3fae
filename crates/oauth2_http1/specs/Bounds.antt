-- The default bounds of a client, and the most bytes that are read for a reply.
use Rattle.std.specs.Prelude.{ℕ, ◌+◌, ◌-◌, ◌*◌, ◌^◌, min}
use Rattle.oauth2_http1.specs.declared.bounds.Bounds.{Bounds}

-- at most 1 MiB for a body, 1,048,576 reads, and 16 KiB each for a head, for the extensions of all
-- chunks and for the trailers
abbrev pub default_bounds : Bounds
default_bounds = record {
  limits = record { max_head_len = 16384; max_extensions_len = 16384; max_trailers_len = 16384 };
  max_body = 1048576;
  max_reads = 1048576;
}

-- the most bytes that are read for one reply, with all responses of status 1xx before it: eight
-- times the sum of the bounds on its parts, but at most 2^64 - 1
abbrev pub most_bytes : Bounds → ℕ
most_bytes b =
    min
    (8 * (b.limits.max_head_len + b.limits.max_extensions_len + b.limits.max_trailers_len + b.max_body))
    (2 ^ 64 - 1)
