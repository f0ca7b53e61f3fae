-- How often a request is sent again, and how long the client waits before that.
use Rattle.std.specs.Prelude.{ℕ}
use Rattle.std.specs.Duration.{as_nanos}
use Rattle.oauth2_http1_connections.specs.declared.retries.limits.RetryLimits.{RetryLimits}

-- the limits of the repeats: their number, and the first and the longest wait in nanoseconds
pub record Limits : Type 0 where
  pub most_repeats : ℕ
  pub first_wait : ℕ
  pub most_wait : ℕ

-- a `RetryLimits` with its times in nanoseconds
abbrev pub limits_of : RetryLimits → Limits
limits_of limits = record {
  most_repeats = limits.most_repeats;
  first_wait = as_nanos limits.first_wait;
  most_wait = as_nanos limits.most_wait;
}
