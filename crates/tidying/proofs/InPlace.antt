-- So many rows can be counted in a number, and tables are as long after a step as before it.
-- Assumes nothing.
use mathlib.Core.Path.{◌≡◌, ◌∙◌}
use mathlib.Core.List.{List}
use Prim.Native.Nat.{ℕ, ◌^◌, ◌≤◌, ◌<◌}
use native.Mathlib.Omega.{arith}
use lib.ListN.{length}
use Rattle.sheet.specs.Format.{Bytes}
use Rattle.rows.specs.Formats.{format_of}
use Rattle.rows.specs.declared.Format.{Format}
use Rattle.rows.specs.declared.Format.TheVariants.{Narrow, Wide}
use Rattle.rows.specs.declared.Layout.{Layout}
use Rattle.buckets.specs.Chains.{Room}
use Rattle.tidy_rules.proofs.Segments.{room_as}
use Rattle.tidying.specs.Inner.Tables.{InPlace}

pub rows_fit : (f : Format) {n : ℕ} → n ≤ 9216 → n < 256 ^ (format_of f).width
rows_fit Narrow h = omega arith
rows_fit Wide h = omega arith

pub tables_as : {H L M : List ℕ} {H₀ L₀ M₀ : List ℕ} {n : ℕ} → length H ≡ length H₀ → length L ≡ length L₀ → length M ≡ length M₀
    → Room H₀ L₀ M₀ n → Room H L M n
tables_as h l m r =
    record {
      all_heads = h ∙ r.all_heads;
      links_fit = omega (arith, l, r.links_fit);
      members_fit = omega (arith, m, r.members_fit);
      countable = r.countable;
    }

pub in_place_as : {s : Layout} {b b' : Bytes} {K K' : List ℕ} → length b' ≡ length b → length K' ≡ length K → InPlace s b K → InPlace s b' K'
in_place_as e k p = record { room = room_as e p.room; counted = p.counted; known_fit = omega (arith, k, p.known_fit) }
