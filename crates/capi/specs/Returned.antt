-- What a call from C returns, a number, and what it leaves in its output, its work buffers and its arrays.
-- Assumes nothing.
use Rattle.std.specs.Prelude.{List, ℕ}
use Rattle.sheet.specs.Format.{Bytes}
use Rattle.sheet.specs.Operations.{Written, Solving}
use Rattle.sheet.specs.Order.{Comparing}
use Rattle.sheet.specs.Force.{Forcing}
use Rattle.sheet.specs.Guards.{Guarding}
use Rattle.outer.specs.Answers.{OuterWritten}
use Rattle.step_list.specs.Numbers.{Lent, Tabled}
use Rattle.packing.specs.Packed.{packed_written, packed_solved, packed_guards}
use Rattle.packing.specs.Copies.{packed_copied}
use Rattle.packing.specs.Order.{packed_compared}
use Rattle.packing.specs.Panel.{packed_forced}

-- an operation with an output
pub record Output : Type 0 where
  pub number : ℕ
  pub output : Bytes

abbrev pub output_left : ℕ → Lent → Output
output_left r out = record { number = r; output = out.exit.now }

abbrev pub packed_writing : Written → Output
packed_writing w = record { number = packed_written w.answer; output = w.output }

abbrev pub packed_copying : OuterWritten → Output
packed_copying w = record { number = packed_copied w.answer; output = w.output }

-- an operation with two work buffers
pub record Buffers : Type 0 where
  pub number : ℕ
  pub first : Bytes
  pub second : Bytes

abbrev pub buffers_left : ℕ → Lent → Lent → Buffers
buffers_left r first second = record { number = r; first = first.exit.now; second = second.exit.now }

abbrev pub packed_solving : Solving → Buffers
packed_solving w = record { number = packed_solved w.answer; first = w.first; second = w.second }

abbrev pub packed_comparing : Comparing → Buffers
packed_comparing w = record { number = packed_compared w.answer; first = w.first; second = w.second }

abbrev pub packed_forcing : Forcing → Buffers
packed_forcing w = record { number = packed_forced w.answer; first = w.first; second = w.second }

-- Guards: an output and two work buffers
pub record Guarded : Type 0 where
  pub number : ℕ
  pub output : Bytes
  pub first : Bytes
  pub second : Bytes

abbrev pub guards_left : ℕ → Lent → Lent → Lent → Guarded
guards_left r out first second =
    record { number = r; output = out.exit.now; first = first.exit.now; second = second.exit.now }

abbrev pub packed_guarding : Guarding → Guarded
packed_guarding w = record { number = packed_guards w.answer; output = w.output; first = w.first; second = w.second }

-- a list of steps: two arrays of answers and two buffers
pub record Listed : Type 0 where
  pub number : ℕ
  pub numbers : List ℕ
  pub values : List ℕ
  pub first : Bytes
  pub second : Bytes

abbrev pub steps_left : ℕ → Lent → Lent → Lent → Lent → Listed
steps_left r numbers values first second =
    record {
      number = r;
      numbers = numbers.exit.now;
      values = values.exit.now;
      first = first.exit.now;
      second = second.exit.now;
    }

abbrev pub packed_listing : Tabled → Listed
packed_listing w =
    record {
      number = packed_written w.answer;
      numbers = w.numbers;
      values = w.values;
      first = w.first;
      second = w.second;
    }
