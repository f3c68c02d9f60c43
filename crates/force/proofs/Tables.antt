-- A table with several values put in makes of a tree what assigning them one after another makes of it.
-- Assumes nothing.
use mathlib.Core.Path.{◌≡◌, refl, sym, ap, ap₂, ◌∙◌, fun_ext}
use mathlib.Core.Bool.{Bool, true, false, not, cond, beq, true≢false}
use mathlib.Core.List.{List, [], ◌∷◌}
use Prim.Native.Nat.{ℕ, ◌≤◌, ◌<◌}
use native.Mathlib.Omega.{arith}
use lib.Dec.{eqb, leb}
use lib.ListN.{length, set, length-set}
use lib.Seq.{get_or-set_same, get_or-set_other}
use borrow.Author.Tests.{eqb-true, eqb-false, eq-eqb, ne_eqb, lt-leb}
use Rattle.formula.specs.Tree.{Tree, lit, node, Forest, ∅, ◌▸◌, Binding, Prefix, binds, distinct, constant, replace, replace_all, assigned, assign}
use Rattle.formula.specs.Force.{given_by}
use Rattle.formula.proofs.Booleans.{by_cases}
use Rattle.formula.proofs.Prefixes.{distinct_parts, binds_first, binds-later}
use Rattle.substitution.specs.Changes.{entry, put_entry, numbers, chosen, became, changed}
use Rattle.substitution.proofs.Tables.{length-numbers, numbers_at, none-chosen, numbers_change}
use Rattle.force.specs.Inner.Moves.{put_all, moves}

-- replace

mutual
  unfolding replace

  replace_lit : (u : Tree) → replace lit u ≡ u
  replace_lit (lit s v) = refl
  replace_lit (node o us) = ap (node o) (replace_lit_all us)

  replace_lit_all : (us : Forest) → replace_all lit us ≡ us
  replace_lit_all ∅ = refl
  replace_lit_all (u ▸ us) = ap₂ ◌▸◌ (replace_lit u) (replace_lit_all us)

module _ (f g : Bool → ℕ → Tree) where
  mutual
    unfolding replace

    replace-twice : (u : Tree) → replace (λ s v. replace g (f s v)) u ≡ replace g (replace f u)
    replace-twice (lit s v) = refl
    replace-twice (node o us) = ap (node o) (replace-twice-all us)

    replace-twice-all : (us : Forest) → replace_all (λ s v. replace g (f s v)) us ≡ replace_all g (replace_all f us)
    replace-twice-all ∅ = refl
    replace-twice-all (u ▸ us) = ap₂ ◌▸◌ (replace-twice u) (replace-twice-all us)

replace-constant : (g : Bool → ℕ → Tree) (c : Bool) → replace g (constant c) ≡ constant c
unfolding replace
replace-constant g true = refl
replace-constant g false = refl

-- a table that puts values in, for none of the variables of a prefix
record Open (t : List ℕ) (p : Prefix) : Type 0 where
  long : length t ≡ 1025
  only : (s : Bool) (v : ℕ) → chosen t s v ≡ true → leb (entry t v) 1024 ≡ false
  fresh : (v : ℕ) → binds p v ≡ true → entry t v ≡ v

-- every variable of a prefix has an entry
abbrev pub Small : Prefix → Type 0
Small p = (v : ℕ) → binds p v ≡ true → v ≤ 1024

high : (b : Bool) → 1024 < put_entry b
high true = omega arith
high false = omega arith

-- one value more

module _ (t : List ℕ) (long : length t ≡ 1025) (x : ℕ) (small : x ≤ 1024) (b : Bool) where
  here : entry (set t x (put_entry b)) x ≡ put_entry b
  here = get_or-set_same t x (put_entry b) x (omega arith)

  elsewhere : (v : ℕ) → eqb v x ≡ false → entry (set t x (put_entry b)) v ≡ entry t v
  elsewhere v h = get_or-set_other t x v (put_entry b) v (eqb-false v x h)

  put_in : (s : Bool) (v : ℕ) → eqb v x ≡ true → changed (set t x (put_entry b)) s v ≡ constant (beq s b)
  unfolding changed chosen became
  put_in s v h =
      let same = eqb-true v x h in
      let e : entry (set t x (put_entry b)) v ≡ put_entry b = ap (λ w. entry (set t x (put_entry b)) w) same ∙ here in
      ap (λ e. cond (not (eqb e v)) (became s e) (lit s v)) e ∙
      ap (λ m. cond (not m) (became s (put_entry b)) (lit s v)) (ne_eqb (put_entry b) v (λ f. omega (arith, high b, f, same))) ∙ by b
    where
      by : (b : Bool)
          → cond (leb (put_entry b) 1024) (lit s (put_entry b)) (constant (beq s (eqb (put_entry b) 1026))) ≡ constant (beq s b)
      by true = refl
      by false = refl

  left_out : (s : Bool) (v : ℕ) → eqb v x ≡ false → changed (set t x (put_entry b)) s v ≡ changed t s v
  unfolding changed chosen
  left_out s v h = ap (λ e. cond (not (eqb e v)) (became s e) (lit s v)) (elsewhere v h)

  changed-put : entry t x ≡ x → ((s : Bool) (v : ℕ) → chosen t s v ≡ true → leb (entry t v) 1024 ≡ false)
      → (s : Bool) (v : ℕ) → changed (set t x (put_entry b)) s v ≡ replace (assigned x b) (changed t s v)
  unfolding changed chosen became replace
  changed-put own only s v =
      by_cases (eqb v x)
      (λ h. put_in s v h ∙ ap (λ m. cond m (constant (beq s b)) (lit s v)) (sym h) ∙ ap (replace (assigned x b)) (stays h))
      (λ h. left_out s v h ∙ apart (chosen t s v) refl h)
    where
      stays : eqb v x ≡ true → lit s v ≡ changed t s v
      stays h =
          let same = eqb-true v x h in
          ap (λ m. cond (not m) (became s (entry t v)) (lit s v)) (sym (eq-eqb (entry t v) v (ap (entry t) same ∙ own ∙ sym same)))

      apart : (m : Bool) → chosen t s v ≡ m → eqb v x ≡ false
          → cond m (became s (entry t v)) (lit s v) ≡ replace (assigned x b) (cond m (became s (entry t v)) (lit s v))
      apart true k h =
          let put : became s (entry t v) ≡ constant (beq s (eqb (entry t v) 1026))
          = ap (λ m. cond m (lit s (entry t v)) (constant (beq s (eqb (entry t v) 1026)))) (only s v k) in
          put ∙ sym (replace-constant (assigned x b) (beq s (eqb (entry t v) 1026))) ∙ ap (replace (assigned x b)) (sym put)
      apart false k h = ap (λ m. cond m (constant (beq s b)) (lit s v)) (sym h)

  only_put : ((s : Bool) (v : ℕ) → chosen t s v ≡ true → leb (entry t v) 1024 ≡ false)
      → (s : Bool) (v : ℕ) → chosen (set t x (put_entry b)) s v ≡ true → leb (entry (set t x (put_entry b)) v) 1024 ≡ false
  unfolding chosen
  only_put only s v k =
      by_cases (eqb v x)
      (λ h. ap (λ e. leb e 1024) (ap (λ w. entry (set t x (put_entry b)) w) (eqb-true v x h) ∙ here) ∙ lt-leb (put_entry b) 1024 (high b))
      (λ h. ap (λ e. leb e 1024) (elsewhere v h) ∙ only s v (ap (λ e. not (eqb e v)) (sym (elsewhere v h)) ∙ k))

-- values one after another

open_put : (t : List ℕ) (z : Binding) (p : Prefix) (b : Bool) → distinct (z ∷ p) ≡ true → z.variable ≤ 1024 → Open t (z ∷ p)
    → Open (set t z.variable (put_entry b)) p
open_put t z p b d small o =
    record {
      long = length-set t z.variable (put_entry b) ∙ o.long;
      only = only_put t o.long z.variable small b o.only;
      fresh = λ v h. elsewhere t o.long z.variable small b v (apart v h) ∙ o.fresh v (binds-later z p v h);
    }
  where
    apart : (v : ℕ) → binds p v ≡ true → eqb v z.variable ≡ false
    apart v h = ne_eqb v z.variable (λ e. true≢false (sym h ∙ ap (binds p) e ∙ (distinct_parts z p d).0))

replaced : (bs : List Bool) (p : Prefix) (t : List ℕ) (u : Tree) → distinct p ≡ true → Small p → Open t p
    → replace (changed (put_all bs p t)) u ≡ (given_by bs p (replace (changed t) u)).matrix
unfolding put_all given_by assign
replaced [] p t u d small o = refl
replaced (b ∷ bs) [] t u d small o = refl
replaced (b ∷ bs) (z ∷ p) t u d small o =
    let x = z.variable in
    let few : x ≤ 1024 = small x (binds_first z p) in
    replaced bs p (set t x (put_entry b)) u (distinct_parts z p d).1 (λ v h. small v (binds-later z p v h)) (open_put t z p b d few o) ∙
    ap (λ (w : Tree). (given_by bs p w).matrix)
    (ap (λ (h : Bool → ℕ → Tree). replace h u)
    (fun_ext λ s. fun_ext λ v. changed-put t o.long x few b (o.fresh x (binds_first z p)) o.only s v) ∙
    replace-twice (changed t) (assigned x b) u)

-- all moves, from the table that changes nothing
pub moves-given : (bs : List Bool) (p : Prefix) (u : Tree) → distinct p ≡ true → Small p
    → replace (changed (moves bs p)) u ≡ (given_by bs p u).matrix
moves-given bs p u d small =
    replaced bs p (numbers 1025) u d small
    (record {
      long = length-numbers 1025;
      only = λ s v h. absurd (true≢false (sym h ∙ none-chosen 1025 s v));
      fresh = λ v h. numbers_at 1025 v;
    }) ∙
    ap (λ (w : Tree). (given_by bs p w).matrix) (ap (λ (h : Bool → ℕ → Tree). replace h u) (numbers_change 1025) ∙ replace_lit u)
