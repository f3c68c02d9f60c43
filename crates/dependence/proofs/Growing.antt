-- The growing set: its members depend on x, and when none is left to find it has all that do.
-- Assumes nothing.
use mathlib.Core.Path.{◌≡◌, refl, sym, ◌∙◌, ap, ap₂}
use mathlib.Core.Bool.{Bool, true, false, not, ◌&&◌, ◌||◌, cond, true≢false, false≢true}
use mathlib.Core.List.{List, [], ◌∷◌}
use mathlib.Core.Logic.{⊎_elim}
use Rattle.std.specs.Prelude.{Some, None}
use Prim.Native.Nat.{ℕ, zero, suc, ◌-◌, ◌*◌, ◌≤◌, ◌<◌}
use native.Mathlib.Omega.{arith}
use lib.Dec.{eqb, ltb}
use lib.ListN.{length, get_or, replicate, length-replicate}
use borrow.Author.Tests.{eqb-true}
use Rattle.formula.specs.Tree.{same_op, exists, Tree, Prefix, Formula, of, has, binds}
use Rattle.formula.specs.Expand.{after, among, occurs, occurring, later}
use Rattle.formula.specs.Outer.{existentials, block, within, touches, some_row, touched, grown, stage, depends}
use Rattle.formula.proofs.Booleans.{and_parts, or_cases, or_later}
use Rattle.formula.proofs.Outer.Closure.{shut, stage-binds}
use Rattle.formula.proofs.Prefixes.{some_here, some_found}
use Rattle.sheet.specs.Format.{Bytes}
use Rattle.rows.specs.Formulas.{formula_in}
use Rattle.rows.specs.declared.Layout.{Layout}
use Rattle.sets.specs.Sets.{holds, size, left_in}
use Rattle.sets.proofs.Members.{holds-none, size_most, size_more}
use Rattle.subtrees.specs.Ends.{Indexed}
use Rattle.occurrences.specs.Chains.{Chain}
use Rattle.occurrences.specs.Occurrences.{Occurrences}
use Rattle.relevance.specs.Walks.{Chained}
use Rattle.relevance.specs.declared.Range.{Range}
use Rattle.dependence.specs.Marks.{Marked, MarkedRelevant}
use Rattle.dependence.specs.Blocks.{IsBlock}
use Rattle.dependence.specs.Dependents.{range_at, IsNext, Dependents}

-- the block's variables have literals

among-has : (P : ℕ → Bool) (p : Prefix) (v : ℕ) → binds (existentials (among P p)) v ≡ true → P v ≡ true
unfolding existentials among binds
among-has P [] v h = absurd (false≢true h)
among-has P (z ∷ p) v h = by (P z.variable) refl h (among-has P p v)
  where
    in_row : (m : Bool) → P z.variable ≡ true → binds (cond m (z ∷ existentials (among P p)) (existentials (among P p))) v ≡ true
        → (binds (existentials (among P p)) v ≡ true → P v ≡ true) → P v ≡ true
    in_row true e k rest =
        ⊎_elim (λ q. ap P (sym (eqb-true z.variable v q)) ∙ e) rest (or_cases (eqb z.variable v) (binds (existentials (among P p)) v) k)
    in_row false e k rest = rest k

    by : (m : Bool) → P z.variable ≡ m → binds (existentials (cond m (z ∷ among P p) (among P p))) v ≡ true
        → (binds (existentials (among P p)) v ≡ true → P v ≡ true) → P v ≡ true
    by true e k rest = in_row (same_op exists z.quantifier) e k rest
    by false e k rest = rest k

block-has : (x : ℕ) (f : Formula) (v : ℕ) → binds (block x f) v ≡ true → has (of v) f.matrix ≡ true
unfolding block later occurring
block-has x f v h = among-has (occurs f.matrix) (after x f.prefix) v h

-- a set of no numbers

no_member : {set : List ℕ} → set ≡ replicate 17 0 → (v : ℕ) → holds set v ≡ false
no_member {set} e v = ap (λ (ws : List ℕ). holds ws v) e ∙ holds-none 17 v

none_in : {set : List ℕ} → set ≡ replicate 17 0 → {A : Type 0} (v : ℕ) → holds set v ≡ true → A
none_in e v h = absurd (false≢true (sym (no_member e v) ∙ h))

pub seventeen : {set : List ℕ} → set ≡ replicate 17 0 → length set ≡ 17
seventeen e = ap (λ (ws : List ℕ). length ws) e ∙ length-replicate {A = ℕ} 17 0

module _ (x : ℕ) (f : Formula) where
  abbrev t : Tree
  t = f.matrix

  abbrev p : Prefix
  p = block x f

  -- what x touches in the block depends on it, and so does what a depending variable touches

  first_stage : (n v : ℕ) → binds p v ≡ true → touches t x v ≡ true → stage t p x n v ≡ true
  unfolding stage touched grown
  first_stage zero v b h = ap₂ ◌&&◌ b h
  first_stage (suc n) v b h =
      ap (λ (m : Bool). m || (binds p v && some_row (λ y. stage t p x n y && touches t y v) p)) (first_stage n v b h)

  depends_first : (v : ℕ) → binds p v ≡ true → touches t x v ≡ true → depends x f v ≡ true
  unfolding depends
  depends_first v b h = first_stage (length p) v b h

  depends-next : (y v : ℕ) → depends x f y ≡ true → binds p v ≡ true → touches t y v ≡ true → depends x f v ≡ true
  unfolding depends grown
  depends-next y v d b h =
      shut t p x v
      (or_later (stage t p x (length p) v)
      (ap₂ ◌&&◌ b (some_here (λ w. stage t p x (length p) w && touches t w v) p y (stage-binds t p x (length p) y d) (ap₂ ◌&&◌ d h))))

  -- a set that has what x touches in the block, and what its members touch, has all stages
  all_stages : (S : ℕ → Bool) → ((v : ℕ) → binds p v ≡ true → touches t x v ≡ true → S v ≡ true)
      → ((y v : ℕ) → S y ≡ true → binds p v ≡ true → touches t y v ≡ true → S v ≡ true) → (n v : ℕ) → stage t p x n v ≡ true → S v ≡ true
  unfolding stage touched grown
  all_stages S first on zero v h = let parts = and_parts (binds p v) (touches t x v) h in first v parts.0 parts.1
  all_stages S first on (suc n) v h =
      ⊎_elim (λ e. all_stages S first on n v e)
      (λ e. let parts = and_parts (binds p v) (some_row (λ y. stage t p x n y && touches t y v) p) e in
      let y = some_found (λ y. stage t p x n y && touches t y v) p parts.1 in
      let of-y = and_parts (stage t p x n y.0) (touches t y.0 v) y.1 in
      on y.0 v (all_stages S first on n y.0 of-y.0) parts.0 of-y.1)
      (or_cases (stage t p x n v) (binds p v && some_row (λ y. stage t p x n y && touches t y v) p) h)

  -- so a set whose members depend on x, and that has these, is that of the depending variables
  is_closed : (S : ℕ → Bool) → ((v : ℕ) → S v ≡ true → depends x f v ≡ true) → ((v : ℕ) → binds p v ≡ true → touches t x v ≡ true → S v ≡ true)
      → ((y v : ℕ) → S y ≡ true → binds p v ≡ true → touches t y v ≡ true → S v ≡ true) → (v : ℕ) → S v ≡ depends x f v
  unfolding depends
  is_closed S sound first on v = by (S v) refl (depends x f v) refl
    where
      by : (a : Bool) → S v ≡ a → (d : Bool) → depends x f v ≡ d → a ≡ d
      by true e true k = refl
      by true e false k = absurd (true≢false (sym (sound v e) ∙ k))
      by false e true k = absurd (true≢false (sym (all_stages S first on (length p) v k) ∙ e))
      by false e false k = refl

  touches-within : (y v : ℕ) → has (of y) t ≡ true → touches t y v ≡ within (of y) (of v) t
  unfolding touches
  touches-within y v h = ap (λ (m : Bool). m && within (of y) (of v) t) h

  -- the set grows: `found` has what x and the members touch, and the members of the block in it depend on x
  pub record Growing (found set : List ℕ) : Type 0 where
    pub room : length found ≡ 17
    pub words : length set ≡ 17
    pub reached : (v : ℕ) → v ≤ 1024 → binds p v ≡ true → holds found v ≡ true → depends x f v ≡ true
    pub of_own : (v : ℕ) → v ≤ 1024 → touches t x v ≡ true → holds found v ≡ true
    pub of_members : (y v : ℕ) → holds set y ≡ true → v ≤ 1024 → touches t y v ≡ true → holds found v ≡ true

  -- a loop that grows it
  pub record Closing (bs found set : List ℕ) : Type 0 where
    pub block_is : IsBlock x f bs
    pub growing : Growing found set

  pub grow_start : {none found set : List ℕ} → has (of x) t ≡ true → none ≡ replicate 17 0 → set ≡ replicate 17 0
      → Marked (λ v. within (of x) (of v) t) none found → Growing found set
  grow_start {none} {found} {set} h empty zeros m =
      record {
        room = m.same_length ∙ seventeen empty;
        words = seventeen zeros;
        reached = λ v k b e. depends_first v b (sym (is v k) ∙ e);
        of_own = λ v k e. is v k ∙ e;
        of_members = λ y v e k q. none_in zeros y e;
      }
    where
      is : (v : ℕ) → v ≤ 1024 → holds found v ≡ touches t x v
      is v k = m.is v k ∙ ap (λ (c : Bool). c || within (of x) (of v) t) (no_member empty v) ∙ sym (touches-within x v h)

  -- a number that is left to take
  pub record Taken (set : List ℕ) (y : ℕ) : Type 0 where
    pub near : y ≤ 1024
    pub occurs : has (of y) t ≡ true
    pub member : depends x f y ≡ true
    pub new : holds set y ≡ false

  pub take_left : {bs found set : List ℕ} {y : ℕ} → Closing bs found set → IsNext bs found set (Some y) → Taken set y
  take_left {bs} {found} {set} {y} all next =
      let both = and_parts (holds bs y && holds found y) (not (holds set y)) next.1 in
      let parts = and_parts (holds bs y) (holds found y) both.0 in
      let bound : binds p y ≡ true = sym (all.block_is.is y) ∙ parts.0 in
      record {
        near = omega arith;
        occurs = block-has x f y bound;
        member = all.growing.reached y (omega arith) bound parts.1;
        new = flipped (holds set y) both.1;
      }
    where
      flipped : (m : Bool) → not m ≡ true → m ≡ false
      flipped true e = absurd (false≢true e)
      flipped false e = refl

  pub grow_on : {found set found' set' : List ℕ} {y : ℕ} → Taken set y → Growing found set → length set' ≡ length set
      → ((v : ℕ) → holds set' v ≡ (eqb v y || holds set v)) → Marked (λ v. within (of y) (of v) t) found found' → Growing found' set'
  grow_on {found} {set} {found'} {set'} {y} k g l added m =
      record {
        room = m.same_length ∙ g.room;
        words = l ∙ g.words;
        reached = λ v n b e.
            ⊎_elim (λ q. g.reached v n b q) (λ q. depends-next y v k.member b (touches-within y v k.occurs ∙ q))
            (or_cases (holds found v) (within (of y) (of v) t) (sym (m.is v n) ∙ e));
        of_own = λ v n e. kept v n (g.of_own v n e);
        of_members = λ w v e n q. in_set w (holds found' v ≡ true)
            (λ own. m.is v n ∙ or_later (holds found v) (sym (touches-within y v k.occurs) ∙ ap (λ (u : ℕ). touches t u v) (sym own) ∙ q))
            (λ old. kept v n (g.of_members w v old n q)) e;
      }
    where
      in_set : (v : ℕ) (A : Type 0) → (v ≡ y → A) → (holds set v ≡ true → A) → holds set' v ≡ true → A
      in_set v A own old e =
          ⊎_elim (λ q. own (eqb-true v y q)) old (or_cases (eqb v y) (holds set v) (sym (added v) ∙ e))

      kept : (v : ℕ) → v ≤ 1024 → holds found v ≡ true → holds found' v ≡ true
      kept v n e = m.is v n ∙ ap (λ (c : Bool). c || within (of y) (of v) t) e

  -- the measure: the numbers that are not in the set
  pub grow_less : (set set' : List ℕ) {found : List ℕ} {y : ℕ} → Taken set y → Growing found set → length set' ≡ length set
      → ((v : ℕ) → holds set' v ≡ (eqb v y || holds set v)) → 1088 - size set' < 1088 - size set
  grow_less set set' {found} {y} k g l added =
      let more = size_more set set' y l added (omega (arith, k.near, g.words)) k.new in
      let most = size_most set' in
      omega (arith, more, most, l, g.words)

  -- in the end, what is found of the block
  pub grow_done : {bs found set last : List ℕ} → Closing bs found set → IsNext bs found set None
      → length last ≡ length set → ((v : ℕ) → holds last v ≡ (holds bs v && holds found v)) → Dependents x f last
  grow_done {bs} {found} {set} {last} all over size both =
      record {
        words = size ∙ all.growing.words;
        few = λ v e. all.block_is.few v (parts v e).0;
        is = is_closed (holds last) (λ v e. all.growing.reached v (all.block_is.few v (parts v e).0) (sym (all.block_is.is v) ∙ (parts v e).0) (parts v e).1)
            (λ v b e. in_it v b (λ k. all.growing.of_own v k e)) (λ w v e b q. in_it v b (λ k. by_member w v e k b q));
      }
    where
      parts : (v : ℕ) → holds last v ≡ true → (holds bs v ≡ true) × (holds found v ≡ true)
      parts v e = and_parts (holds bs v) (holds found v) (sym (both v) ∙ e)

      in_it : (v : ℕ) → binds p v ≡ true → (v ≤ 1024 → holds found v ≡ true) → holds last v ≡ true
      in_it v b reach =
          let own : holds bs v ≡ true = all.block_is.is v ∙ b in
          both v ∙ ap₂ ◌&&◌ own (reach (all.block_is.few v own))

      one : (m : Bool) → not m ≡ false → m ≡ true
      one true e = refl
      one false e = absurd (true≢false e)

      -- what is left out of the third set, if none of the two others is left
      in_third : (ws us ts : List ℕ) (v : ℕ) → holds ws v ≡ true → holds us v ≡ true → left_in ws us ts v ≡ false → holds ts v ≡ true
      in_third ws us ts v e k none = one (holds ts v) (sym (ap₂ (λ (a c : Bool). a && c && not (holds ts v)) e k) ∙ none)

      by_member : (w v : ℕ) → holds last w ≡ true → v ≤ 1024 → binds p v ≡ true → touches t w v ≡ true → holds found v ≡ true
      by_member w v e k b q =
          ⊎_elim
          (λ none. all.growing.of_members w v
          (in_third bs found set w (parts w e).0 (parts w e).1 (none w (all.block_is.few w (parts w e).0))) k q)
          (λ none. in_third bs bs found v (all.block_is.is v ∙ b) (all.block_is.is v ∙ b) (none v k)) over

  -- without a literal of x nothing depends on it
  no_stage : has (of x) t ≡ false → (n v : ℕ) → stage t p x n v ≡ false
  unfolding stage touched grown touches some_row
  no_stage h zero v = ap (λ (m : Bool). binds p v && (m && within (of x) (of v) t)) h ∙ never (binds p v)
    where
      never : (m : Bool) → (m && false) ≡ false
      never true = refl
      never false = refl
  no_stage h (suc n) v =
      ap₂ (λ (m : Bool) (k : Bool). m || (binds p v && k)) (no_stage h n v) (no_row (no_stage h n) p) ∙ never (binds p v)
    where
      never : (m : Bool) → (m && false) ≡ false
      never true = refl
      never false = refl

      no_row : ((y : ℕ) → stage t p x n y ≡ false) → (q : Prefix) → some_row (λ y. stage t p x n y && (has (of y) t && within (of y) (of v) t)) q ≡ false
      no_row none [] = refl
      no_row none (z ∷ q) =
          ap₂ (λ (m : Bool) (k : Bool). (m && (has (of z.variable) t && within (of z.variable) (of v) t)) || k) (none z.variable) (no_row none q)

  pub grow_none : {set : List ℕ} → has (of x) t ≡ false → set ≡ replicate 17 0 → Dependents x f set
  unfolding depends
  grow_none {set} h zeros =
      record { words = seventeen zeros; few = λ v. none_in zeros v; is = λ v. no_member zeros v ∙ sym (no_stage h (length p) v) }

-- the chain of one variable
module _ {s : Layout} (b : Bytes) {ranges next : List ℕ} (o : Occurrences s b ranges next) {y : ℕ} (near : y ≤ 1024) where
  pub occurs_read : {r : Bool} → r ≡ ltb (get_or ranges (2 * y) 0) s.nodes → {m : Bool} → r ≡ m → has (of y) (formula_in s b).matrix ≡ m
  unfolding formula_in
  occurs_read e k = sym (o.tells y near) ∙ sym e ∙ k

  module _ {r : Range} (is : r ≡ range_at ranges y) (some : has (of y) (formula_in s b).matrix ≡ true) where
    chain : Chain (of y) s b next r.first r.last
    unfolding formula_in
    chain = rw is (o.chained y near some)

    pub chained-range : {ends : List ℕ} → Indexed s b ends → Chained s b ends next r.first r.last
    chained-range i = record { indexed = i; chosen = of y; chain = chain }

    pub marked-range : {old new : List ℕ} → MarkedRelevant s b next r old new → Marked (λ v. within (of y) (of v) (formula_in s b).matrix) old new
    unfolding formula_in
    marked-range m = m (of y) chain
