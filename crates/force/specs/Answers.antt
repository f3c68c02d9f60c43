-- An answer of Force in the paper's words (N9).
-- Assumes nothing.
use Rattle.std.specs.Prelude.{Result, Ok, Err}
use Rattle.formula.specs.Tree.{Quantifier, exists, for_all}
use Rattle.formula.specs.Force.{Forced as Said, neither, with-0, with-1, both, stopped_at}
use Rattle.sheet.specs.Format.{Bytes}
use Rattle.sheet.specs.Check.{Answer, accepted}
use Rattle.sheet.specs.Force.{Panel, Forcing}
use Rattle.rows.specs.Refusals.{refused_by}
use Rattle.rows.specs.declared.refusals.Refusal.{Refusal}
use Rattle.force.specs.declared.Turn.{Turn}
use Rattle.force.specs.declared.Turn.TheVariants.{Exists, ForAll}
use Rattle.force.specs.declared.Outcome.{Outcome}
use Rattle.force.specs.declared.Outcome.TheVariants.{Neither, Zero, One, Both, Stopped}
use Rattle.force.specs.declared.Forced.{Forced}

-- "whose turn is next"
abbrev pub turn_of : Turn → Quantifier
turn_of Exists = exists
turn_of ForAll = for_all

-- "neither, 0, 1 or both"; "stopped with the variable that run names"
abbrev pub outcome_of : Outcome → Said
outcome_of Neither = neither
outcome_of Zero = with-0
outcome_of One = with-1
outcome_of Both = both
outcome_of (Stopped x) = stopped_at x

abbrev pub forced_answer : Result Forced Refusal → Answer Panel
forced_answer (Ok r) = accepted (record { turn = turn_of r.turn; outcome = outcome_of r.outcome })
forced_answer (Err e) = refused_by e

-- a call's answer, with what it leaves in the two buffers
abbrev pub forcing_of : Result Forced Refusal → Bytes → Bytes → Forcing
forcing_of r first second = record { answer = forced_answer r; first = first; second = second }
