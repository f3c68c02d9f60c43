-- The claim has the wanted truth exactly if the pairs win, for pairs that cover exactly the side's variables and are in order.
-- Assumes nothing.
use mathlib.Core.Path.{◌≡◌, refl, sym, ◌∙◌, ap, ap₂, fun_ext}
use mathlib.Core.Bool.{Bool, true, false, not, ◌&&◌, ◌||◌, cond, beq, or-true}
use mathlib.Core.List.{[], ◌∷◌}
use mathlib.Core.Logic.{◌↔◌}
use Prim.Native.Nat.{ℕ, suc, ◌+◌, ◌*◌}
use native.Mathlib.Omega.{arith}
use lib.Dec.{eqb}
use lib.ListN.{length}
use borrow.Author.Tests.{eqb-true, eq-eqb, not-true, not-false}
use Rattle.formula.specs.Tree.{Op, and, or, dual, same_op, Quantifier, Tree, lit, node, Forest, ∅, ◌▸◌, Prefix, Formula, Literals, of, rows, rows_all, has, has_any, binds, distinct, closed}
use Rattle.formula.specs.Truth.{Assignment, put, join, unit, eval, eval_all, bind, truth}
use Rattle.formula.specs.Expand.{all_of}
use Rattle.formula.specs.Solve.{ended, Fits, solve}
use Rattle.formula.specs.Force.{wanted}
use Rattle.formula.specs.Strategy.{Pair, Pairs, play, owns, before, Wins, winner, solve_strategy, sets, once, reads, beyond, in_order, WellFormed}
use Rattle.formula.specs.StrategyMatrix.{pair_trees, strategy_matrix}
use Rattle.formula.specs.Claim.{negated, negated_all, broken, all_rows, claim}
use Rattle.formula.proofs.Booleans.{join-unit, join-zero, and_parts, or_parts, eqb_comm, beq_same, beq_refl}
use Rattle.formula.proofs.Binding.{bind_ext}
use Rattle.formula.proofs.Evaluation.{eval_same, put_other, has_cover}
use Rattle.formula.proofs.Closed.{unbound}
use Rattle.formula.proofs.Steps.{bind-constant}
use Rattle.formula.proofs.Strategy.Rows.{sides_apart, owns-bound, owns-unbound, owns-before}
use Rattle.formula.proofs.Strategy.Play.{well_formed_wins}
use Rattle.formula.proofs.Strategy.Truth.{put_same, put_own, wins_truth}
use Rattle.formula.proofs.Strategy.Ordered.{reads_unset}
use Rattle.formula.proofs.Strategy.Matrix.{matrix_rows, rows_matrix}
use Rattle.formula.proofs.Strategy.Wins.{join_lost, wanted-winner, solve_strategy_right}

-- negation

not-join : (o : Op) (a b : Bool) → join (dual o) (not a) (not b) ≡ not (join o a b)
not-join and true b = refl
not-join and false b = refl
not-join or true b = refl
not-join or false b = refl

not-literal : (s b : Bool) → beq (not s) b ≡ not (beq s b)
not-literal true true = refl
not-literal true false = refl
not-literal false true = refl
not-literal false false = refl

mutual
  unfolding eval negated

  pub eval-negated : (t : Tree) (ρ : Assignment) → eval (negated t) ρ ≡ not (eval t ρ)
  eval-negated (lit s v) ρ = not-literal s (ρ v)
  eval-negated (node o ts) ρ = eval-negated_all ts o ρ

  eval-negated_all : (ts : Forest) (o : Op) (ρ : Assignment) → eval_all (negated_all ts) (dual o) ρ ≡ not (eval_all ts o ρ)
  eval-negated_all ∅ and ρ = refl
  eval-negated_all ∅ or ρ = refl
  eval-negated_all (t ▸ ts) o ρ =
      ap₂ (join (dual o)) (eval-negated t ρ) (eval-negated_all ts o ρ) ∙ not-join o (eval t ρ) (eval_all ts o ρ)

mutual
  unfolding has negated

  pub has-negated : (L : Literals) (t : Tree) → has (λ s v. L (not s) v) t ≡ false → has L (negated t) ≡ false
  has-negated L (lit s v) h = h
  has-negated L (node o ts) h = has_any-negated L ts h

  has_any-negated : (L : Literals) (ts : Forest) → has_any (λ s v. L (not s) v) ts ≡ false → has_any L (negated_all ts) ≡ false
  has_any-negated L ∅ h = refl
  has_any-negated L (t ▸ ts) h =
      let parts = or_parts (has (λ s v. L (not s) v) t) (has_any (λ s v. L (not s) v) ts) h in
      ap₂ ◌||◌ (has-negated L t parts.0) (has_any-negated L ts parts.1)

mutual
  unfolding rows negated

  pub rows-negated : (t : Tree) → rows (negated t) ≡ rows t
  rows-negated (lit s v) = refl
  rows-negated (node o ts) = ap suc (rows-negated_all ts)

  rows-negated_all : (ts : Forest) → rows_all (negated_all ts) ≡ rows_all ts
  rows-negated_all ∅ = refl
  rows-negated_all (t ▸ ts) = ap₂ ◌+◌ (rows-negated t) (rows-negated_all ts)

-- an assignment keeps to the pairs: each variable is its function
unfoldable pub keeps : Pairs → Assignment → Bool
keeps [] ρ = true
keeps (c ∷ g) ρ = beq (ρ c.variable) (eval c.function ρ) && keeps g ρ

-- such an assignment is what the pairs make of it
play_keeps : (g : Pairs) (ρ : Assignment) → keeps g ρ ≡ true → play g ρ ≡ ρ
unfolding play keeps
play_keeps [] ρ h = refl
play_keeps (c ∷ g) ρ h =
    let parts = and_parts (beq (ρ c.variable) (eval c.function ρ)) (keeps g ρ) h in
    ap (λ (σ : Assignment). put σ c.variable (eval c.function σ)) (play_keeps g ρ parts.1) ∙
    put_same ρ c.variable (eval c.function ρ) (beq_same (ρ c.variable) (eval c.function ρ) parts.0)

-- what the claim says of pairs: nothing where the assignment keeps to them, and else the wanted value

eval_pair : (q : Quantifier) (a b c : Bool)
    → join q (join (dual q) (beq true a) (join (dual q) (not b) (unit (dual q))))
    (join q (join (dual q) (beq false a) (join (dual q) b (unit (dual q)))) c) ≡ cond (beq a b) c (wanted q)
eval_pair and true true c = refl
eval_pair and true false true = refl
eval_pair and true false false = refl
eval_pair and false true c = refl
eval_pair and false false c = refl
eval_pair or true true c = refl
eval_pair or true false c = refl
eval_pair or false true c = refl
eval_pair or false false c = refl

eval-broken : (q : Quantifier) (g : Pairs) (ρ : Assignment) → eval_all (broken q g) q ρ ≡ cond (keeps g ρ) (unit q) (wanted q)
unfolding eval broken keeps
eval-broken q [] ρ = refl
eval-broken q (c ∷ g) ρ =
    let a : Bool = ρ c.variable in
    let b : Bool = eval c.function ρ in
    ap
    (λ (n : Bool). join q (join (dual q) (beq true a) (join (dual q) n (unit (dual q))))
    (join q (join (dual q) (beq false a) (join (dual q) b (unit (dual q)))) (eval_all (broken q g) q ρ)))
    (eval-negated c.function ρ) ∙
    eval_pair q a b (eval_all (broken q g) q ρ) ∙ by (beq a b) (eval-broken q g ρ)
  where
    by : (m : Bool) → eval_all (broken q g) q ρ ≡ cond (keeps g ρ) (unit q) (wanted q)
        → cond m (eval_all (broken q g) q ρ) (wanted q) ≡ cond (m && keeps g ρ) (unit q) (wanted q)
    by true e = e
    by false e = refl

wanted-zero : (q : Quantifier) (a : Bool) → join q a (wanted q) ≡ wanted q
wanted-zero or a = join-zero or a
wanted-zero and a = join-zero and a

-- the claim's matrix, as a value
claimed : Quantifier → Formula → Pairs → Assignment → Bool
claimed q f g ρ = join q (eval f.matrix ρ) (eval_all (broken q g) q ρ)

-- pairs that win make the claim's matrix wanted everywhere, whatever else holds of them
claimed-wanted : (q : Quantifier) (f : Formula) (g : Pairs) → ((ρ : Assignment) → eval f.matrix (play g ρ) ≡ wanted q)
    → (ρ : Assignment) → claimed q f g ρ ≡ wanted q
unfolding claimed
claimed-wanted q f g w ρ = ap (join q (eval f.matrix ρ)) (eval-broken q g ρ) ∙ by (keeps g ρ) refl
  where
    by : (m : Bool) → keeps g ρ ≡ m → join q (eval f.matrix ρ) (cond m (unit q) (wanted q)) ≡ wanted q
    by true e = join-unit q (eval f.matrix ρ) ∙ ap (eval f.matrix) (sym (play_keeps g ρ e)) ∙ w ρ
    by false e = wanted-zero q (eval f.matrix ρ)

pub wins_claim : (q : Quantifier) (f : Formula) (g : Pairs) → Wins q f (play g) → truth (claim q f g) ≡ wanted q
unfolding truth claim eval claimed
wins_claim q f g w =
    bind_ext (all_rows (dual q) f.prefix) (claimed-wanted q f g w.has_wanted) (λ _. false) ∙
    bind-constant (all_rows (dual q) f.prefix) (wanted q) (λ _. false)

-- a prefix of the other side alone: where it gives what is wanted, every assignment does
bind_all : (q : Quantifier) (p : Prefix) (F : Assignment → Bool) (ρ σ : Assignment) → bind (all_rows (dual q) p) F ρ ≡ wanted q
    → ((v : ℕ) → binds p v ≡ false → ρ v ≡ σ v) → F σ ≡ wanted q
unfolding bind all_rows binds
bind_all q [] F ρ σ h same = ap F (sym (fun_ext (λ v. same v refl))) ∙ h
bind_all q (z ∷ p) F ρ σ h same =
    bind_all q p F (put ρ z.variable (σ z.variable)) σ
    (join_lost q (λ b. bind (all_rows (dual q) p) F (put ρ z.variable b)) h (σ z.variable)) (λ v k. at v k (eqb v z.variable) refl)
  where
    at : (v : ℕ) → binds p v ≡ false → (m : Bool) → eqb v z.variable ≡ m → cond m (σ z.variable) (ρ v) ≡ σ v
    at v k true e = ap σ (sym (eqb-true v z.variable e))
    at v k false e = same v (ap₂ ◌||◌ (eqb_comm z.variable v ∙ e) k)

-- the functions of pairs in order: what they don't read

-- a variable without a later pair, and not of the other side, is not read
unread : (q : Quantifier) (p : Prefix) (c : Pair) (g : Pairs) (u : ℕ) → in_order q p (c ∷ g) ≡ true → sets g u ≡ false
    → owns (dual q) p u ≡ false → reads (beyond q p c.variable) g u ≡ true
unread q p c g u o k h = reads_unset (beyond q p c.variable) g u k ∙ ap not (by (owns (dual q) (before c.variable p) u) refl)
  where
    by : (m : Bool) → owns (dual q) (before c.variable p) u ≡ m → m ≡ false
    by true e = sym (owns-before (dual q) c.variable u p e) ∙ h
    by false e = refl

head-reads : (q : Quantifier) (p : Prefix) (c : Pair) (g : Pairs) → in_order q p (c ∷ g) ≡ true
    → (has (λ s v. reads (beyond q p c.variable) g v) c.function ≡ false) × (in_order q p g ≡ true)
unfolding in_order reads
head-reads q p c g o =
    let x : ℕ = c.variable in
    let Y : ℕ → Bool = beyond q p x in
    let parts = and_parts (not (cond (eqb x x) (has (λ s v. reads Y g v) c.function) (reads Y g x))) (in_order q p g) o in (
      ap (λ (m : Bool). cond m (has (λ s v. reads Y g v) c.function) (reads Y g x)) (sym (eq-eqb x x refl)) ∙
          not-true (cond (eqb x x) (has (λ s v. reads Y g v) c.function) (reads Y g x)) parts.0,
      parts.1,
    )

-- literals of a set that holds only such variables
has-unread : (q : Quantifier) (p : Prefix) (c : Pair) (g : Pairs) → in_order q p (c ∷ g) ≡ true → (M : ℕ → Bool)
    → ((u : ℕ) → M u ≡ true → (sets g u ≡ false) × (owns (dual q) p u ≡ false)) → has (λ s u. M u) c.function ≡ false
has-unread q p c g o M h =
    let free = (head-reads q p c g o).0 in
    has_cover (λ s v. reads (beyond q p c.variable) g v) (λ s v. reads (beyond q p c.variable) g v) (λ s u. M u)
    (λ s u k _. by u (M u) refl k) c.function free free
  where
    by : (u : ℕ) (m : Bool) → M u ≡ m → reads (beyond q p c.variable) g u ≡ false → m ≡ false
    by u true e k = sym (unread q p c g u o (h u e).0 (h u e).1) ∙ k
    by u false e k = refl

-- a variable of the side
own_unread : (q : Quantifier) (p : Prefix) (x : ℕ) → owns q p x ≡ true → owns (dual q) p x ≡ false
own_unread q p x h = by (owns (dual q) p x) refl
  where
    by : (m : Bool) → owns (dual q) p x ≡ m → m ≡ false
    by true e = absurd (sides_apart q _ (owns-bound q p x h).1 (owns-bound (dual q) p x e).1)
    by false e = refl

-- no function of the pairs reads a variable of the side without a later pair
keeps_put : (q : Quantifier) (p : Prefix) (x : ℕ) (b : Bool) → owns q p x ≡ true → (g : Pairs) → in_order q p g ≡ true → sets g x ≡ false
    → (ρ : Assignment) → keeps g (put ρ x b) ≡ keeps g ρ
unfolding keeps sets
keeps_put q p x b h [] o k ρ = refl
keeps_put q p x b h (c ∷ g) o k ρ =
    let unset = or_parts (eqb c.variable x) (sets g x) k in
    ap₂ ◌&&◌
    (ap₂ beq (ap (λ (m : Bool). cond m b (ρ c.variable)) unset.0)
    (eval_same (of x) (put ρ x b) ρ (put_other x b ρ) c.function (has-unread q p c g o (λ u. eqb u x) (only unset.1))))
    (keeps_put q p x b h g (head-reads q p c g o).1 unset.1 ρ)
  where
    only : sets g x ≡ false → (u : ℕ) → eqb u x ≡ true → (sets g u ≡ false) × (owns (dual q) p u ≡ false)
    only n u e =
        let same = eqb-true u x e in
        (ap (sets g) same ∙ n, ap (owns (dual q) p) same ∙ own_unread q p x h)

-- so what they play keeps to them
keeps_play : (q : Quantifier) (p : Prefix) (g : Pairs) → once g ≡ true → ((x : ℕ) → sets g x ≡ true → owns q p x ≡ true) → in_order q p g ≡ true
    → (ρ : Assignment) → keeps g (play g ρ) ≡ true
unfolding keeps play once sets
keeps_play q p [] n owned o ρ = refl
keeps_play q p (c ∷ g) n owned o ρ =
    let x : ℕ = c.variable in
    let σ : Assignment = play g ρ in
    let b : Bool = eval c.function σ in
    let own : owns q p x ≡ true = owned x (ap (λ (m : Bool). m || sets g x) (eq-eqb x x refl)) in
    let parts = and_parts (not (sets g x)) (once g) n in
    let unset : sets g x ≡ false = not-true (sets g x) parts.0 in
    ap₂ ◌&&◌
    (ap₂ beq (put_own σ x b)
    (eval_same (of x) (put σ x b) σ (put_other x b σ) c.function (has-unread q p c g o (λ u. eqb u x) (only own unset))) ∙
    beq_refl b)
    (keeps_put q p x b own g (head-reads q p c g o).1 unset σ ∙
    keeps_play q p g parts.1 (λ v k. owned v (ap (λ (m : Bool). eqb x v || m) k ∙ or-true (eqb x v))) (head-reads q p c g o).1 ρ)
  where
    only : owns q p c.variable ≡ true → sets g c.variable ≡ false → (u : ℕ) → eqb u c.variable ≡ true
        → (sets g u ≡ false) × (owns (dual q) p u ≡ false)
    only own unset u e =
        let same = eqb-true u c.variable e in
        (ap (sets g) same ∙ unset, ap (owns (dual q) p) same ∙ own_unread q p c.variable own)

-- every literal of the claim is bound, and of the strategy's matrix

-- of pairs in order whose variables are of the side: the first one's own literal is bound, and so is every literal of its function
module _ (q : Quantifier) (p : Prefix) (c : Pair) (g : Pairs) (owned : (x : ℕ) → sets (c ∷ g) x ≡ true → owns q p x ≡ true)
    (o : in_order q p (c ∷ g) ≡ true) where
  later_owned : (x : ℕ) → sets g x ≡ true → owns q p x ≡ true
  unfolding sets
  later_owned x k = owned x (ap (λ (m : Bool). eqb c.variable x || m) k ∙ or-true (eqb c.variable x))

  own_bound : unbound p true c.variable ≡ false
  unfolding sets
  own_bound =
      let x : ℕ = c.variable in
      ap not (owns-bound q p x (owned x (ap (λ (m : Bool). m || sets g x) (eq-eqb x x refl)))).0

  function_bound : has (unbound p) c.function ≡ false
  function_bound = has-unread q p c g o (λ u. not (binds p u)) none-unbound
    where
      none-unbound : (u : ℕ) → not (binds p u) ≡ true → (sets g u ≡ false) × (owns (dual q) p u ≡ false)
      none-unbound u k =
          let loose : binds p u ≡ false = not-true (binds p u) k in
          (by loose (sets g u) refl, owns-unbound (dual q) p u loose)
        where
          by : binds p u ≡ false → (m : Bool) → sets g u ≡ m → m ≡ false
          by loose true e = sym (later_owned u e) ∙ owns-unbound q p u loose
          by loose false e = refl

broken-bound : (q : Quantifier) (p : Prefix) (g : Pairs) → ((x : ℕ) → sets g x ≡ true → owns q p x ≡ true) → in_order q p g ≡ true
    → has_any (unbound p) (broken q g) ≡ false
unfolding has broken
broken-bound q p [] owned o = refl
broken-bound q p (c ∷ g) owned o =
    let own = own_bound q p c g owned o in
    let free = function_bound q p c g owned o in
    ap₂ ◌||◌ (ap₂ ◌||◌ own (ap (λ (m : Bool). m || false) (has-negated (unbound p) c.function free)))
    (ap₂ ◌||◌ (ap₂ ◌||◌ own (ap (λ (m : Bool). m || false) free))
    (broken-bound q p g (later_owned q p c g owned o) (head-reads q p c g o).1))

-- the pairs written as a matrix
pair_trees-bound : (q : Quantifier) (p : Prefix) (g : Pairs) → ((x : ℕ) → sets g x ≡ true → owns q p x ≡ true) → in_order q p g ≡ true
    → has_any (unbound p) (pair_trees g) ≡ false
unfolding has pair_trees
pair_trees-bound q p [] owned o = refl
pair_trees-bound q p (c ∷ g) owned o =
    ap₂ ◌||◌ (ap₂ ◌||◌ (own_bound q p c g owned o) (ap (λ (m : Bool). m || false) (function_bound q p c g owned o)))
    (pair_trees-bound q p g (later_owned q p c g owned o) (head-reads q p c g o).1)

pub closed_matrix : (q : Quantifier) (p : Prefix) (g : Pairs) → WellFormed q p g
    → closed (record { prefix = p; matrix = strategy_matrix g }) ≡ true
unfolding closed has strategy_matrix
closed_matrix q p g w = ap not (pair_trees-bound q p g (λ x h. sym (w.covers x) ∙ h) w.is_in_order)

module _ (q : Quantifier) (f : Formula) (g : Pairs) (c : closed f ≡ true) (w : WellFormed q f.prefix g) where
  owned : (x : ℕ) → sets g x ≡ true → owns q f.prefix x ≡ true
  owned x h = sym (w.covers x) ∙ h

  claim-bound : has (unbound f.prefix) (claim q f g).matrix ≡ false
  unfolding has claim closed
  claim-bound = ap₂ ◌||◌ (not-true (has (unbound f.prefix) f.matrix) c) (broken-bound q f.prefix g owned w.is_in_order)

  claim_wins : truth (claim q f g) ≡ wanted q → Wins q f (play g)
  unfolding truth eval claim claimed
  claim_wins h = well_formed_wins q f.prefix (eval f.matrix) g w value
    where
      value : (ρ : Assignment) → eval f.matrix (play g ρ) ≡ wanted q
      value ρ =
          let σ : Assignment = play g ρ in
          let τ : Assignment = λ v. cond (binds f.prefix v) (σ v) false in
          let kept : claimed q f g σ ≡ eval f.matrix σ
          = ap (join q (eval f.matrix σ))
          (eval-broken q g σ ∙ ap (λ (m : Bool). cond m (unit q) (wanted q)) (keeps_play q f.prefix g w.has_once owned w.is_in_order ρ)) ∙
          join-unit q (eval f.matrix σ) in
          sym kept ∙
          eval_same (unbound f.prefix) σ τ (λ s v k. sym (ap (λ (m : Bool). cond m (σ v) false) (not-false (binds f.prefix v) k)))
          (claim q f g).matrix claim-bound ∙
          bind_all q f.prefix (eval (claim q f g).matrix) (λ _. false) τ h (λ v k. sym (ap (λ (m : Bool). cond m (σ v) false) k))

  -- the claim has the wanted truth exactly if the pairs win
  pub claim_right : (truth (claim q f g) ≡ wanted q) ↔ Wins q f (play g)
  claim_right = (claim_wins, wins_claim q f g)

  -- so a claim of the wanted truth shows the first formula's
  pub claim-truth : distinct f.prefix ≡ true → truth (claim q f g) ≡ wanted q → truth f ≡ wanted q
  claim-truth d h = wins_truth q f (play g) d (claim_wins h)

-- what Solve's own strategy claims has the verdict's truth
pub solve-claim : (fits : Fits) (f : Formula) → distinct f.prefix ≡ true → closed f ≡ true → (v : Bool) → (solve fits f).end ≡ ended v
    → truth (claim (winner v) f (solve_strategy fits (winner v) f)) ≡ v
solve-claim fits f d c v h =
    wins_claim (winner v) f (solve_strategy fits (winner v) f) (solve_strategy_right fits f d c v h).wins ∙ wanted-winner v

-- the claim is a formula: no number twice, every literal bound, one row of the prefix for each

pub binds-all_rows : (q : Quantifier) (p : Prefix) (v : ℕ) → binds (all_rows q p) v ≡ binds p v
unfolding binds all_rows
binds-all_rows q [] v = refl
binds-all_rows q (z ∷ p) v = ap (λ (m : Bool). eqb z.variable v || m) (binds-all_rows q p v)

pub distinct-all_rows : (q : Quantifier) (p : Prefix) → distinct (all_rows q p) ≡ distinct p
unfolding distinct all_rows
distinct-all_rows q [] = refl
distinct-all_rows q (z ∷ p) = ap₂ (λ (a b : Bool). not a && b) (binds-all_rows q p z.variable) (distinct-all_rows q p)

pub length-all_rows : (q : Quantifier) (p : Prefix) → length (all_rows q p) ≡ length p
unfolding all_rows
length-all_rows q [] = refl
length-all_rows q (z ∷ p) = ap suc (length-all_rows q p)

pub all_of-rows : (q : Quantifier) (p : Prefix) → all_of q (all_rows q p) ≡ true
unfolding all_of all_rows
all_of-rows q [] = refl
all_of-rows q (z ∷ p) = ap₂ ◌&&◌ (same-op-self q) (all_of-rows q p)
  where
    same-op-self : (q : Quantifier) → same_op q q ≡ true
    same-op-self and = refl
    same-op-self or = refl

pub closed-claim : (q : Quantifier) (f : Formula) (g : Pairs) → closed f ≡ true → WellFormed q f.prefix g → closed (claim q f g) ≡ true
unfolding closed claim
closed-claim q f g c w =
    ap not
    (has_cover (unbound f.prefix) (unbound f.prefix) (unbound (all_rows (dual q) f.prefix))
    (λ s v k _. ap not (binds-all_rows (dual q) f.prefix v) ∙ k) (claim q f g).matrix (claim-bound q f g c w) (claim-bound q f g c w))

-- four rows and the function's, twice, for each pair; one and the first matrix's besides
unfoldable pub pair_rows : Pairs → ℕ
pair_rows [] = 0
pair_rows (c ∷ g) = 4 + (rows c.function + rows c.function) + pair_rows g

rows-broken : (q : Quantifier) (g : Pairs) → rows_all (broken q g) ≡ pair_rows g
unfolding rows broken pair_rows
rows-broken q [] = refl
rows-broken q (c ∷ g) =
    let e = rows-negated c.function in
    let k = rows-broken q g in
    omega arith

pub rows-claim : (q : Quantifier) (f : Formula) (g : Pairs) → rows (claim q f g).matrix ≡ suc (rows f.matrix + pair_rows g)
unfolding rows claim
rows-claim q f g = ap (λ (n : ℕ). suc (rows f.matrix + n)) (rows-broken q g)

-- so it has the rows of the first matrix and those of the strategy's twice, but one
pub rows-claim_matrix : (q : Quantifier) (f : Formula) (g : Pairs)
    → suc (rows (claim q f g).matrix) ≡ rows f.matrix + 2 * rows (strategy_matrix g)
unfolding pair_rows matrix_rows
rows-claim_matrix q f g = omega (arith, rows-claim q f g, rows_matrix g, twice g)
  where
    twice : (g : Pairs) → 2 + pair_rows g ≡ 2 * matrix_rows g
    twice [] = refl
    twice (c ∷ g) = omega (arith, twice g)
