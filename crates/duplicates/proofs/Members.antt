-- Members: those that clash fall into one bucket, and a chain that is passed to its end has none that clashes.
-- Assumes nothing.
use mathlib.Core.Path.{◌≡◌, refl, sym, ap, ap₂, ◌∙◌}
use mathlib.Core.Bool.{Bool, true, false, ◌||◌, or-false, false≢true}
use mathlib.Core.Logic.{⊎_elim}
use mathlib.Core.List.{List}
use Prim.Native.Nat.{ℕ, zero, suc, ◌+◌, ◌/◌, ◌%◌, ◌≤◌, ◌<◌}
use native.Mathlib.Numerals.{add-one}
use native.Mathlib.Omega.{arith}
use lib.Dec.{eqb}
use lib.ListN.{length, get_or, set}
use lib.Seq.{set-get_or}
use borrow.Author.Tests.{eqb-true}
use Rattle.formula.specs.Tree.{and, or, Tree, lit, node}
use Rattle.formula.specs.Tidy.{same_variable, same_tree, duplicate}
use Rattle.formula.proofs.Booleans.{or-none, or_later, or_cases}
use Rattle.formula.proofs.Tidy.Same.{same_tree_same, duplicate_same}
use Rattle.buckets.specs.Chains.{entry_of, BUCKETS, bucket, Room, Linked, Passed}
use Rattle.buckets.specs.Halves.{hash_of}
use Rattle.std.specs.Prelude.{Option, None}
use Rattle.buckets.proofs.Chains.{linked-none, less_or_same}
use Rattle.buckets.specs.Hashes.{hash}
use Rattle.buckets.proofs.Hashes.{literal-bucket}
use Rattle.sheet.specs.Format.{Bytes}
use Rattle.rows.specs.declared.Layout.{Layout}
use Rattle.subtrees.specs.Subtrees.{top}
use Rattle.duplicates.specs.Members.{clash, tree_of, Member, Members, some_member, clashes_with, two_clash}

-- clash, by the first tree's kind

pub clash-literal : (t : Tree) → (top t).kind ≤ 4 → (u : Tree) → clash t u ≡ same_variable t u
unfolding clash duplicate
clash-literal (lit s v) h u = or-false _
clash-literal (node and ts) h u = absurd (omega arith)
clash-literal (node or ts) h u = absurd (omega arith)

pub clash_operator : (t : Tree) → 4 < (top t).kind → (u : Tree) → clash t u ≡ same_tree t u
unfolding clash duplicate same_variable
clash_operator (lit true v) h u = absurd (omega arith)
clash_operator (lit false v) h u = absurd (omega arith)
clash_operator (node o ts) h u = refl

-- same-variable, of a literal

pub no_variable : (t u : Tree) → 4 < (top u).kind → same_variable t u ≡ false
unfolding same_variable
no_variable (node o ts) u h = refl
no_variable (lit s v) (lit true v') h = absurd (omega arith)
no_variable (lit s v) (lit false v') h = absurd (omega arith)
no_variable (lit s v) (node o us) h = refl

pub by_variable : (t u : Tree) {x y : ℕ} → (top t).kind ≤ 4 → (top u).kind ≤ 4 → x ≡ (top t).argument → y ≡ (top u).argument
    → eqb x y ≡ same_variable t u
unfolding same_variable
by_variable (lit s v) (lit s' v') h k e f = ap₂ eqb e f
by_variable (lit s v) (node and us) h k e f = absurd (omega arith)
by_variable (lit s v) (node or us) h k e f = absurd (omega arith)
by_variable (node and ts) u h k e f = absurd (omega arith)
by_variable (node or ts) u h k e f = absurd (omega arith)

-- trees that clash have hashes of one bucket
hash-bucket : (t u : Tree) → clash t u ≡ true → bucket (hash t) ≡ bucket (hash u)
unfolding clash same_variable hash
hash-bucket t u e = ⊎_elim (literals t u) (λ q. ap (λ w. bucket (hash w)) (duplicate_same t u q)) (or_cases (same_variable t u) (duplicate t u) e)
  where
    literals : (t u : Tree) → same_variable t u ≡ true → bucket (hash t) ≡ bucket (hash u)
    literals (node o ts) u q = absurd (false≢true q)
    literals (lit s v) (node o us) q = absurd (false≢true q)
    literals (lit s v) (lit s' v') q =
        literal-bucket s v ∙ ap (λ (x : ℕ). x / 4 % BUCKETS) (eqb-true v v' q) ∙ sym (literal-bucket s' v')

-- a member's bucket is its hash's
bucket-hash : (m : ℕ) → bucket m ≡ bucket (hash_of m)
bucket-hash m = omega arith

module _ {s : Layout} {b : Bytes} {m w : ℕ} (p : Member s b m) (q : Member s b w) where
  pub buckets_same : clash (tree_of s b m) (tree_of s b w) ≡ true → bucket m ≡ bucket w
  buckets_same e =
      bucket-hash m ∙ ap bucket p.hashed ∙ hash-bucket (tree_of s b m) (tree_of s b w) e ∙ sym (ap bucket q.hashed) ∙
      sym (bucket-hash w)

  -- operators by their hashes
  pub hashes_other : 4 < (top (tree_of s b m)).kind → (hash_of m ≡ hash_of w → ⊥) → clash (tree_of s b m) (tree_of s b w) ≡ false
  hashes_other h d = clash_operator (tree_of s b m) h (tree_of s b w) ∙ by (same_tree (tree_of s b m) (tree_of s b w)) refl
    where
      by : (c : Bool) → same_tree (tree_of s b m) (tree_of s b w) ≡ c → c ≡ false
      by true e = absurd (d (p.hashed ∙ ap hash (same_tree_same _ _ e) ∙ sym q.hashed))
      by false e = refl

-- some-member

pub member_yes : (P : ℕ → Bool) (M : List ℕ) (n i : ℕ) → i < n → P (get_or M i 0) ≡ true → some_member P M n ≡ true
unfolding some_member
member_yes P M zero i l e = absurd (omega arith)
member_yes P M (suc n) i l e =
    less_or_same i n l (λ q. ap (λ (c : Bool). c || some_member P M n) (ap (λ (j : ℕ). P (get_or M j 0)) (sym q) ∙ e))
    (λ q. or_later (P (get_or M n 0)) (member_yes P M n i q e))

pub member_no : (P : ℕ → Bool) (M : List ℕ) (n : ℕ) → ((i : ℕ) → i < n → P (get_or M i 0) ≡ true → ⊥) → some_member P M n ≡ false
unfolding some_member
member_no P M zero h = refl
member_no P M (suc n) h = or-none (by (P (get_or M n 0)) refl) (member_no P M n (λ i l. h i (omega arith)))
  where
    by : (c : Bool) → P (get_or M n 0) ≡ c → c ≡ false
    by true e = absurd (h n (omega arith) e)
    by false e = refl

-- a chain passed to its end
pub chain_passed : {s : Layout} {b : Bytes} {M : List ℕ} {n m : ℕ} {l : Option ℕ} → Members s b M n → Member s b m
    → Passed M n (bucket m) (λ j. clashes_with s b m (get_or M j 0) ≡ true) l → l ≡ None → some_member (clashes_with s b m) M n ≡ false
chain_passed {s} {b} {M} {n} {m} ms w p e =
    member_no (clashes_with s b m) M n (λ j l t. p.failed j (omega (arith, ap entry_of e)) l (buckets_same (ms j l) w t) t)

-- two-clash

pub two_none : (s : Layout) (b : Bytes) (M : List ℕ) → two_clash s b M 0 ≡ false
unfolding two_clash
two_none s b M = refl

module _ (s : Layout) (b : Bytes) (M : List ℕ) where
  pub two_more : (n : ℕ) {n' : ℕ} → n' ≡ suc n → some_member (clashes_with s b (get_or M n 0)) M n ≡ false → two_clash s b M n ≡ false → two_clash s b M n' ≡ false
  unfolding two_clash
  two_more n next e f = rw next (or-none e f)

  two_found-next : (n : ℕ) → some_member (clashes_with s b (get_or M n 0)) M n ≡ true → two_clash s b M (suc n) ≡ true
  unfolding two_clash
  two_found-next n e = ap (λ (c : Bool). c || two_clash s b M n) e

  pub two_found : (n count : ℕ) → n < count → some_member (clashes_with s b (get_or M n 0)) M n ≡ true → two_clash s b M count ≡ true
  unfolding two_clash
  two_found n zero l e = absurd (omega arith)
  two_found n (suc k) l e =
      less_or_same n k l (λ q. ap (λ (j : ℕ). two_clash s b M (suc j)) (sym q) ∙ two_found-next n e)
      (λ q. or_later (some_member (clashes_with s b (get_or M k 0)) M k) (two_found n k q e))

-- the search: no two of the first n members clash, and the chains have them
pub record Searched (s : Layout) (b : Bytes) (H₀ L₀ M₀ : List ℕ) (count : ℕ) (H L M : List ℕ) (n : ℕ) : Type 0 where
  pub within : n ≤ count
  pub same_heads : length H ≡ length H₀
  pub same_links : length L ≡ length L₀
  pub same_members : M ≡ M₀
  pub linked : Linked H L M n
  pub none : two_clash s b M₀ n ≡ false

module _ {s : Layout} {b : Bytes} {H₀ L₀ M₀ : List ℕ} {count : ℕ} where
  pub search_start : Searched s b H₀ L₀ M₀ count H₀ L₀ M₀ 0
  search_start =
      record {
        within = omega arith;
        same_heads = refl;
        same_links = refl;
        same_members = refl;
        linked = linked-none H₀ L₀ M₀;
        none = two_none s b M₀;
      }

  pub members-left : {H L M : List ℕ} {n : ℕ} → Members s b M₀ count → Searched s b H₀ L₀ M₀ count H L M n → n < count → Members s b M (n + 1)
  members-left ms st l i u = rw st.same_members (ms i (omega arith))

  module _ {H L M : List ℕ} {n : ℕ} (r : Room H₀ L₀ M₀ count) (st : Searched s b H₀ L₀ M₀ count H L M n) where
    -- room for the members up to the next, while one is left
    pub room_left : n < count → Room H L M (n + 1)
    room_left l =
        record {
          all_heads = st.same_heads ∙ r.all_heads;
          links_fit = omega (arith, st.same_links, r.links_fit);
          members_fit = omega (arith, ap length st.same_members, r.members_fit);
          countable = omega (arith, r.countable);
        }

    pub search_found : n < count → some_member (clashes_with s b (get_or M n 0)) M n ≡ true → two_clash s b M₀ count ≡ true
    search_found l e = two_found s b M₀ n count l (ap (λ K. some_member (clashes_with s b (get_or K n 0)) K n) (sym st.same_members) ∙ e)

    pub search_on : {H' L' M' : List ℕ} {m : ℕ} → n < count → some_member (clashes_with s b (get_or M n 0)) M n ≡ false → length H' ≡ length H → length L' ≡ length L
        → m ≡ get_or M n 0 → M' ≡ set M n m → Linked H' L' M' (n + 1) → Searched s b H₀ L₀ M₀ count H' L' M' (n + 1)
    search_on {H'} {L'} {M'} l e h k is stored lk =
        record {
          within = omega arith;
          same_heads = h ∙ st.same_heads;
          same_links = k ∙ st.same_links;
          same_members = stored ∙ ap (set M n) is ∙ set-get_or M n 0 ∙ st.same_members;
          linked = lk;
          none =
              two_more s b M₀ n (add-one n) (ap (λ K. some_member (clashes_with s b (get_or K n 0)) K n) (sym st.same_members) ∙ e) st.none;
        }
