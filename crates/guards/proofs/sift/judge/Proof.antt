-- `guards::sift::judge` meets its contract. Assumes nothing.
use mathlib.Core.Path.{◌≡◌, sym, ap}
use Rattle.guards.specs.declared.sift.Word.{Word}
use Rattle.guards.specs.declared.sift.Word.TheVariants.{False, True, Stopped}
use Rattle.guards.specs.Inner.Sieves.{judged_by}
use borrow.Author.Rules.{rules}
use Rattle.guards.proofs.sift.judge.Statement.{statement}
use Rattle.guards.proofs.sift.judge.Tie as tie

enum_told-1 : tie.Need-enum_told-1
enum_told-1 c = search rules

overflow_sub-result : tie.Need-overflow_sub-result
overflow_sub-result c = search rules

enum_told-in-True : tie.Need-enum_told-in-True
enum_told-in-True c = search rules

overflow_sub-result-in-True : tie.Need-overflow_sub-result-in-True
overflow_sub-result-in-True c = search rules

overflow_add-result : tie.Need-overflow_add-result
overflow_add-result c = search rules

overflow_sub-result-in-True-2 : tie.Need-overflow_sub-result-in-True-2
overflow_sub-result-in-True-2 c = search rules

overflow_add-result-in-True : tie.Need-overflow_add-result-in-True
overflow_add-result-in-True c = search rules

enum_told-in-Stopped : tie.Need-enum_told-in-Stopped
enum_told-in-Stopped c = search rules

overflow_sub-result-in-Stopped : tie.Need-overflow_sub-result-in-Stopped
overflow_sub-result-in-Stopped c = search rules

overflow_add-result-in-Stopped : tie.Need-overflow_add-result-in-Stopped
overflow_add-result-in-Stopped c = search rules

overflow_sub-result-in-Stopped-2 : tie.Need-overflow_sub-result-in-Stopped-2
overflow_sub-result-in-Stopped-2 c = search rules

overflow_add-result-in-Stopped-2 : tie.Need-overflow_add-result-in-Stopped-2
overflow_add-result-in-Stopped-2 c = search rules

overflow_add-result-in-Stopped-3 : tie.Need-overflow_add-result-in-Stopped-3
overflow_add-result-in-Stopped-3 c = search rules

returns-in-False : tie.Need-returns-in-False
returns-in-False c =
    let a = c.args in
    let e : a.word ≡ False = search rules in
    ap (λ (w : Word). judged_by a.g w a.end) (sym e)

returns-in-True : tie.Need-returns-in-True
returns-in-True c =
    let a = c.args in
    let e : a.word ≡ True = search rules in
    ap (λ (w : Word). judged_by a.g w a.end) (sym e)

returns-in-Stopped : tie.Need-returns-in-Stopped
returns-in-Stopped c =
    let a = c.args in
    let e : a.word ≡ Stopped = search rules in
    ap (λ (w : Word). judged_by a.g w a.end) (sym e)

pub judge_spec : {M : Type 1} → statement M
judge_spec =
    tie.close
    (tie.spec
    enum_told-1
    overflow_sub-result
    enum_told-in-True
    overflow_sub-result-in-True
    overflow_add-result
    overflow_sub-result-in-True-2
    overflow_add-result-in-True
    enum_told-in-Stopped
    overflow_sub-result-in-Stopped
    overflow_add-result-in-Stopped
    overflow_sub-result-in-Stopped-2
    overflow_add-result-in-Stopped-2
    overflow_add-result-in-Stopped-3
    returns-in-False
    returns-in-True
    returns-in-Stopped)
