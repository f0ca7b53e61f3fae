-- Device polls as contracts see them.
use Rattle.std.specs.Prelude.{ℕ, ℤ}

-- the state of a poll: the interval and the cap of the back-off in nanoseconds, the deadline in
-- nanoseconds since 1970, and how many requests may still be sent
pub record PollState : Type 0 where
  pub interval : ℕ
  pub cap : ℕ
  pub deadline : ℤ
  pub polls_left : ℕ
