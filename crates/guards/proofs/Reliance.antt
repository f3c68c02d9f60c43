-- What the code's own answers can be relied on for, beside what its contract says: one that is no sheet of kept children is the initial
-- run's own.
-- Assumes nothing.
use mathlib.Core.Path.{◌≡◌, sym, ap, subst}
use Rattle.std.specs.Prelude.{Result}
use Rattle.sheet.specs.Format.{Bytes}
use Rattle.sheet.specs.Operations.{solve_call}
use Rattle.sheet.specs.Guards.{Guards, Guarding, guards_call, Starts}
use Rattle.sheet.proofs.Guards.{guards-initial}
use Rattle.rows.specs.Formats.{format_of}
use Rattle.rows.specs.declared.Format.{Format}
use Rattle.rows.specs.declared.refusals.Refusal.{Refusal}
use Rattle.guards.specs.declared.Guarded.{Guarded}
use Rattle.guards.specs.Answers.{guards_told, leaves}

-- an answer r of a call, and what it leaves, as its contract has it
module _ (f : Format) (sheet out first second out' first' second' : Bytes) (r : Result Guarded Refusal)
    (contract : leaves r out' first' second' ≡ guards_call (format_of f) sheet out first second) where
  answers : guards_told r ≡ (guards_call (format_of f) sheet out first second).answer
  answers = ap (λ (x : Guarding). x.answer) contract

  pub starts_as_solve : Starts (guards_told r) (solve_call (format_of f) sheet first second).answer
  starts_as_solve =
      subst (λ (a : Guards). Starts a (solve_call (format_of f) sheet first second).answer) (sym answers) (guards-initial (format_of f) sheet out first second)
