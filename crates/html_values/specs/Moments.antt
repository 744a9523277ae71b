-- Equality of moments.
use Rattle.std.specs.Prelude.{ℕ, ℤ}
use Rattle.jiff_core.specs.{Date.{epoch_day}, DateTime.{civil_nanos}, Time.{time_nanos}}
use Rattle.html_values.specs.declared.moment.{Moment.{Moment}, Moment.TheVariants.{Date, Time, DateTime}}

-- a moment as a number: the day from 1970-01-01 on, the nanosecond of a day, or the nanosecond from
-- 1970-01-01 on
pub data MomentView : Type 0 where
  day_moment : ℤ → MomentView
  time_moment : ℕ → MomentView
  civil_moment : ℤ → MomentView

abbrev pub moment_view : Moment → MomentView
moment_view (Date d) = day_moment (epoch_day d)
moment_view (Time t) = time_moment (time_nanos t)
moment_view (DateTime b) = civil_moment (civil_nanos b)
