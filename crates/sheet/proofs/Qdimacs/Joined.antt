-- Lists without a 0, with a 0 put behind each, are the lists of what they make; and lists that are all clauses.
-- Assumes nothing.
use mathlib.Core.Path.{◌≡◌, refl, sym, ◌∙◌, ap, ap₂}
use mathlib.Core.Bool.{true, false, ◌&&◌, false≢true}
use mathlib.Core.List.{List, [], ◌∷◌, ◌++◌, append_assoc, flat_map}
use Rattle.formula.proofs.Booleans.{and_parts}
use Rattle.sheet.specs.Qdimacs.{split, is_nil, all, Token, opener, plain, minus, other, is_whole, is_end, pieces, ended_lists}
use Rattle.sheet.specs.Qdimacs.{open_list, is_quantified, are_clauses, in_order, well_listed, bindings, bound, clauses}
use Rattle.sheet.specs.Format.{Every}
use Rattle.sheet.proofs.Qdimacs.Lists.{split_piece}
use Rattle.sheet.specs.Texts.{Uncut, lists}
use Rattle.sheet.proofs.Qdimacs.Accepted.{whole_unquantified}

-- lists, each with a 0 behind it
abbrev pub joined : List (List Token) → List Token
joined ls = flat_map (λ l. l ++ plain 0 ∷ []) ls

ended_front : (ls : List (List Token)) (l : List Token) → ended_lists (ls ++ l ∷ []) ≡ ls
unfolding ended_lists
ended_front [] l = refl
ended_front (k ∷ []) l = refl
ended_front (k ∷ m ∷ ls) l = ap {B = List (List Token)} (λ r. k ∷ r) (ended_front (m ∷ ls) l)

open_last : (ls : List (List Token)) (l : List Token) → open_list (ls ++ l ∷ []) ≡ l
unfolding open_list
open_last [] l = refl
open_last (k ∷ []) l = refl
open_last (k ∷ m ∷ ls) l = open_last (m ∷ ls) l

pieces-joined : (ls : List (List Token)) → Every (Uncut is_end) ls → pieces (joined ls) ≡ ls ++ [] ∷ []
unfolding pieces flat_map split
pieces-joined [] u = refl
pieces-joined (l ∷ ls) u =
    ap (split is_end) (append_assoc l (plain 0 ∷ []) (joined ls)) ∙ split_piece is_end l (plain 0) (joined ls) u.0 refl ∙
    ap {B = List (List Token)} (λ r. l ∷ r) (pieces-joined ls u.1)

pub lists-joined : (ls : List (List Token)) → Every (Uncut is_end) ls → lists (joined ls) ≡ ls
lists-joined ls u = ap ended_lists (pieces-joined ls u) ∙ ended_front ls []

pub well_listed-joined : (ls : List (List Token)) → Every (Uncut is_end) ls → in_order ls ≡ true → well_listed (joined ls) ≡ true
unfolding well_listed is_nil
well_listed-joined ls u h =
    ap₂ ◌&&◌ (ap in_order (lists-joined ls u) ∙ h) (ap (λ (ps : List (List Token)). is_nil (open_list ps)) (pieces-joined ls u) ∙ ap is_nil (open_last ls []))

-- lists that are all clauses

pub clauses-all : (ls : List (List Token)) → are_clauses ls ≡ true → clauses ls ≡ ls
unfolding are_clauses all clauses
clauses-all [] h = refl
clauses-all (l ∷ ls) h =
    let a = and_parts (all is_whole l) (are_clauses ls) h in
    rw (whole_unquantified l a.0) (ap {B = List (List Token)} (λ r. l ∷ r) (clauses-all ls a.1))

clause_unbound : (l : List Token) → is_quantified l ≡ false → bindings l ≡ []
unfolding is_quantified bindings
clause_unbound [] h = refl
clause_unbound (opener q ∷ l) h = absurd (false≢true (sym h))
clause_unbound (plain n ∷ l) h = refl
clause_unbound (minus n ∷ l) h = refl
clause_unbound (other ∷ l) h = refl

pub clauses-bind-none : (ls : List (List Token)) → are_clauses ls ≡ true → bound ls ≡ []
unfolding are_clauses all bound flat_map
clauses-bind-none [] h = refl
clauses-bind-none (l ∷ ls) h =
    let a = and_parts (all is_whole l) (are_clauses ls) h in
    rw (clause_unbound l (whole_unquantified l a.0)) (clauses-bind-none ls a.1)
