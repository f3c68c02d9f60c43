-- Codes say literals one to one, and what a walk over three parts finds is what the definition asks of their constraints.
-- Assumes nothing.
use mathlib.Core.Path.{◌≡◌, refl, sym, ap, ap₂, ◌∙◌}
use mathlib.Core.Bool.{Bool, true, false, not, ◌&&◌, ◌||◌, beq}
use mathlib.Core.List.{List, [], ◌∷◌, ◌++◌, map}
use Prim.Native.Nat.{ℕ, suc, ◌-◌, ◌/◌, ◌%◌, ◌≤◌, ◌<◌}
use native.Mathlib.Omega.{arith}
use lib.Dec.{eqb, ltb}
use lib.ListN.{get_or}
use borrow.Author.Tests.{eqb-true, eqb-false, eq-eqb, ne_eqb, le-ltb}
use Rattle.formula.specs.Tree.{Op, dual, same_op, Prefix, binds, quantifier_of}
use Rattle.formula.specs.Expand.{after}
use Rattle.formula.specs.Certificates.{Literal, negated, same_literal, Constraint, some_literal, holds, own_behind, reducible, may_go, follows, resolvent}
use Rattle.formula.proofs.Certificates.Walk.{some_literal-++, some_literal-resolvent}
use Rattle.sets.specs.Sets as sets
use Rattle.sheet.specs.Certificates.{coded, code_of, literal_of}
use Rattle.resolution.specs.declared.words.Part.{Part}
use Rattle.resolution.specs.Codes.{complement, kept, some_kept, words_in, some_in, Adds, Gathers, ranked_behind, uncovered}
use Rattle.resolution.specs.Ranks.{Ranks}
use Rattle.resolution.specs.Steps.{constraint_in, Triple, follows_in}
use Rattle.resolution.proofs.Ranks.{bound_by, rank_some, rank_behind}

-- literals by their codes

same_coded : (c e : ℕ) → same_literal (coded c) (coded e) ≡ eqb c e
same_coded c e = by (eqb (c % 2) 0) (eqb (e % 2) 0) (eqb (c / 2) (e / 2)) refl refl refl
  where
    by : (x y z : Bool) → eqb (c % 2) 0 ≡ x → eqb (e % 2) 0 ≡ y → eqb (c / 2) (e / 2) ≡ z → (beq x y && z) ≡ eqb c e
    by true true true p q r =
        let i = eqb-true (c % 2) 0 p in
        let j = eqb-true (e % 2) 0 q in
        let k = eqb-true (c / 2) (e / 2) r in
        sym (eq-eqb c e (omega arith))
    by false false true p q r =
        let k = eqb-true (c / 2) (e / 2) r in
        sym (eq-eqb c e (odd (eqb-false (c % 2) 0 p) (eqb-false (e % 2) 0 q) k))
      where
        odd : (c % 2 ≡ 0 → ⊥) → (e % 2 ≡ 0 → ⊥) → c / 2 ≡ e / 2 → c ≡ e
        odd f g k = omega arith
    by true false z p q r = let i = eqb-true (c % 2) 0 p in sym (ne_eqb c e (λ h. eqb-false (e % 2) 0 q (omega arith)))
    by false true z p q r = let j = eqb-true (e % 2) 0 q in sym (ne_eqb c e (λ h. eqb-false (c % 2) 0 p (omega arith)))
    by true true false p q r = sym (ne_eqb c e (λ h. eqb-false (c / 2) (e / 2) r (ap (λ n. n / 2) h)))
    by false false false p q r = sym (ne_eqb c e (λ h. eqb-false (c / 2) (e / 2) r (ap (λ n. n / 2) h)))

negated-coded : (c : ℕ) → negated (coded c) ≡ coded (complement c)
negated-coded c = by (eqb (c % 2) 0) refl
  where
    literal : Bool → ℕ → Literal
    literal s v = record { sign = s; variable = v }

    by : (x : Bool) → eqb (c % 2) 0 ≡ x → negated (coded c) ≡ coded (complement c)
    by true p =
        let i = eqb-true (c % 2) 0 p in
        rw p (ap₂ literal (sym (ne_eqb (suc c % 2) 0 (λ h. omega arith))) (half i))
      where
        half : c % 2 ≡ 0 → c / 2 ≡ suc c / 2
        half i = omega arith
    by false p =
        let f = eqb-false (c % 2) 0 p in
        rw p (ap₂ literal (sym (eq-eqb ((c - 1) % 2) 0 (even f))) (half f))
      where
        even : (c % 2 ≡ 0 → ⊥) → (c - 1) % 2 ≡ 0
        even f = omega arith

        half : (c % 2 ≡ 0 → ⊥) → c / 2 ≡ (c - 1) / 2
        half f = omega arith

-- a test of the codes of a part is one of its literals
some_ext : (skip : ℕ) (P : ℕ → Bool) (Q : Literal → Bool) → ((c : ℕ) → c < 4096 → kept skip P c ≡ Q (coded c)) → (ws : List ℕ)
    → some_kept skip P ws ≡ some_literal Q (map literal_of ws)
unfolding some_kept some_literal
some_ext skip P Q h [] = refl
some_ext skip P Q h (w ∷ ws) = ap₂ ◌||◌ (h (code_of w) (below w)) (some_ext skip P Q h ws)
  where
    below : (w : ℕ) → w % 4096 < 4096
    below w = omega arith

-- a part that leaves nothing out
module _ (d : Part) (codes : List ℕ) (whole : d.skip ≡ 4096) where
  whole_part : (P : ℕ → Bool) (Q : Literal → Bool) → ((c : ℕ) → c < 4096 → P c ≡ Q (coded c))
      → some_in d codes P ≡ some_literal Q (constraint_in d codes)
  whole_part P Q same =
      some_ext d.skip P Q (λ c h. rw (ne_eqb d.skip c (λ e. omega (arith, whole))) (same c h)) (words_in d codes)

  -- its set of codes is the set of its literals
  pub whole_marks : (set set' : List ℕ) → ((u : ℕ) → sets.holds set u ≡ false) → Adds eqb d codes (sets.holds set) (sets.holds set')
      → (c : ℕ) → sets.holds set' c ≡ holds (constraint_in d codes) (coded c)
  unfolding holds
  whole_marks set set' none adds c =
      adds c ∙ ap (λ x. some_in d codes (eqb c) || x) (none c) ∙ right (some_in d codes (eqb c)) ∙
      whole_part (eqb c) (same_literal (coded c)) (λ e h. sym (same_coded c e))
    where
      right : (x : Bool) → (x || false) ≡ x
      right true = refl
      right false = refl

-- no code says a literal of a greater variable
pub beyond_codes : (s : Bool) (x : ℕ) (ws : List ℕ) → 2048 ≤ x → holds (map literal_of ws) (record { sign = s; variable = x }) ≡ false
unfolding holds some_literal
beyond_codes s x [] h = refl
beyond_codes s x (w ∷ ws) h =
    ap₂ ◌||◌ (ap (λ b. beq s (eqb (w % 4096 % 2) 0) && b) (ne_eqb x (w % 4096 / 2) (λ e. small w (omega arith))) ∙ none (beq s (eqb (w % 4096 % 2) 0)))
    (beyond_codes s x ws h)
  where
    small : (w : ℕ) → 2048 ≤ w % 4096 / 2 → ⊥
    small w h = omega arith

    none : (b : Bool) → (b && false) ≡ false
    none true = refl
    none false = refl

module _ (a b d : Part) (codes : List ℕ) {n : ℕ} (parts : Triple a b d n) where
  abbrev l : Literal
  l = coded a.skip

  abbrev A : Constraint
  A = constraint_in a codes

  abbrev B : Constraint
  B = constraint_in b codes

  abbrev D : Constraint
  D = constraint_in d codes

  abbrev R : Constraint
  R = resolvent l A B

  module _ (P : ℕ → Bool) (Q : Literal → Bool) (same : (c : ℕ) → c < 4096 → P c ≡ Q (coded c)) where
    first_part : some_in a codes P ≡ some_literal (λ k. not (same_literal l k) && Q k) A
    first_part =
        some_ext a.skip P (λ k. not (same_literal l k) && Q k)
        (λ c h. ap₂ (λ x y. not x && y) (sym (same_coded a.skip c)) (same c h)) (words_in a codes)

    second-part : some_in b codes P ≡ some_literal (λ k. not (same_literal (negated l) k) && Q k) B
    second-part =
        some_ext b.skip P (λ k. not (same_literal (negated l) k) && Q k)
        (λ c h.
        ap₂ (λ x y. not x && y)
        (sym (same_coded b.skip c) ∙ ap (λ k. same_literal k (coded c)) (ap coded parts.opposite ∙ sym (negated-coded a.skip)))
        (same c h))
        (words_in b codes)

    step_part : some_in d codes P ≡ some_literal Q D
    step_part = whole_part d codes parts.whole P Q same

    resolvent-parts : (some_in a codes P || some_in b codes P) ≡ some_literal Q R
    resolvent-parts = ap₂ ◌||◌ first_part second-part ∙ sym (some_literal-resolvent Q l A B)

    all_parts : (some_in b codes P || (some_in a codes P || (some_in d codes P || false))) ≡ some_literal Q (R ++ D)
    all_parts =
        swap (some_in a codes P) (some_in b codes P) (some_in d codes P) ∙ ap₂ ◌||◌ resolvent-parts step_part ∙
        sym (some_literal-++ Q R D)
      where
        swap : (x y z : Bool) → (y || (x || (z || false))) ≡ ((x || y) || z)
        swap true true z = refl
        swap true false z = refl
        swap false true z = refl
        swap false false true = refl
        swap false false false = refl

  -- the tables and sets of a walk
  module _ (o : Op) (p : Prefix) (own other derived all zeros zeros' : List ℕ) (last : ℕ) (ranks : Ranks o p own other)
      (none : (u : ℕ) → sets.holds zeros u ≡ false) (none' : (u : ℕ) → sets.holds zeros' u ≡ false)
      (in-derived : Adds eqb d codes (sets.holds zeros) (sets.holds derived))
      (in_all : Gathers eqb a b d codes (sets.holds zeros') (sets.holds all))
      (is_last : Gathers (ranked_behind own) a b d codes (λ u. ltb u 0) (λ u. ltb u last)) where
    derived-holds : (c : ℕ) → sets.holds derived c ≡ holds D (coded c)
    derived-holds = whole_marks d codes parts.whole zeros derived none in-derived

    all-holds : (c : ℕ) → sets.holds all (complement c) ≡ holds (R ++ D) (negated (coded c))
    unfolding holds
    all-holds c =
        let k = complement c in
        in_all k ∙ ap (λ x. some_in b codes (eqb k) || (some_in a codes (eqb k) || (some_in d codes (eqb k) || x))) (none' k) ∙
        all_parts (eqb k) (same_literal (negated (coded c)))
        (λ e h. sym (ap (λ m. same_literal m (coded e)) (negated-coded c) ∙ same_coded k e))

    -- no rank of the side's own is later exactly if no own literal is behind
    last-behind : (c : ℕ) → bound_by (dual o) p (c / 2) ≡ true → ltb (get_or other (c / 2) 0) last ≡ own_behind o p (c / 2) (R ++ D)
    unfolding own_behind
    last-behind c h =
        let x = get_or other (c / 2) 0 in
        is_last x ∙
        ap (λ y. some_in b codes (ranked_behind own x) || (some_in a codes (ranked_behind own x) || (some_in d codes (ranked_behind own x) || y)))
        (le-ltb x 0 (omega arith)) ∙
        all_parts (ranked_behind own x) (λ k. binds (after (c / 2) p) k.variable && same_op o (quantifier_of p k.variable))
        (λ e g.
        ap₂ ltb (ranks.other_ranks.ranks (c / 2)) (ranks.own_ranks.ranks (e / 2)) ∙
        sym (rank_behind o 0 p (c / 2) (e / 2) ranks.is_distinct h))

    goes : (c : ℕ)
        → (not (eqb (get_or other (c / 2) 0) 0) && not (ltb (get_or other (c / 2) 0) last) && not (sets.holds all (complement c))) ≡
        may_go o p R D (coded c)
    unfolding may_go reducible
    goes c =
        by (binds p (c / 2)) (same_op (dual o) (quantifier_of p (c / 2))) refl refl
      where
        ranked : not (eqb (get_or other (c / 2) 0) 0) ≡ bound_by (dual o) p (c / 2)
        ranked = ap (λ x. not (eqb x 0)) (ranks.other_ranks.ranks (c / 2)) ∙ rank_some (dual o) p (c / 2)

        by : (x y : Bool) → binds p (c / 2) ≡ x → same_op (dual o) (quantifier_of p (c / 2)) ≡ y
            → (not (eqb (get_or other (c / 2) 0) 0) && not (ltb (get_or other (c / 2) 0) last) && not (sets.holds all (complement c))) ≡
            ((x && (y && not (own_behind o p (c / 2) (R ++ D)))) && not (holds (R ++ D) (negated (coded c))))
        by true true e f =
            rw (ranked ∙ ap₂ ◌&&◌ e f)
            (ap₂ (λ x y. not x && not y) (last-behind c (ap₂ ◌&&◌ e f)) (all-holds c))
        by true false e f = rw (ranked ∙ ap₂ ◌&&◌ e f)
        by false y e f = rw (ranked ∙ ap₂ ◌&&◌ e f)

    pub follows-walked : (r : Bool) → not r ≡ (some_in a codes (uncovered other derived all last) || some_in b codes (uncovered other derived all last))
        → r ≡ follows_in a b d codes o p
    unfolding follows_in follows uncovered
    follows-walked r h =
        twice r ∙
        ap not
        (h ∙
        resolvent-parts (uncovered other derived all last) (λ k. not (holds D k || may_go o p R D k))
        (λ c g. ap₂ (λ x y. not (x || y)) (derived-holds c) (goes c)))
      where
        twice : (r : Bool) → r ≡ not (not r)
        twice true = refl
        twice false = refl
