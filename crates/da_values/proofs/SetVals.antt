-- A kept set after an insert or a remove at the place that was found.
use Rattle.std.specs.Prelude.{◌≡◌, ℕ, List, insert, remove, Result, is_ok, MatchResult}
use Rattle.std.proofs.Common.{sym, ap, ◌∙◌, subst}
use Rattle.da_values.specs.declared.val.Val.{Val}
use Rattle.da_values.specs.declared.value.Value.{Value}
use Rattle.da_values.specs.Order.{val_cmp}
use Rattle.da_values.specs.Places.{IsAt, IsBetween}
use Rattle.da_values.specs.Sets.{Ascends, set_has, set_insert, set_remove}
use Rattle.da_values.specs.Value.{val_of, vals}
use Rattle.da_values.proofs.OrderLaws.{val_order, same_from_val_cmp}
use Rattle.da_values.proofs.PlaceLaws.{test_from_place, inserted_kept, removed_kept}
use Rattle.da_values.proofs.SetLaws.{Ascends-insert, Ascends-remove}

pub tested : (set : List Val) (seen : List Value) (x : Val) (r : Result ℕ ℕ) → vals seen ≡ set → MatchResult r (IsAt val_cmp (vals seen) x) (IsBetween val_cmp (vals seen) x) → is_ok r ≡ set_has val_cmp set x
tested set seen x r same_seen found = test_from_place val_cmp val_order same_from_val_cmp val_of seen x r found ∙ ap (λ zs. set_has val_cmp zs x) same_seen

module _ (set : List Val) (seen kept new : List Value) (same_seen : vals seen ≡ set) (same_kept : vals kept ≡ set) where
  moved : vals seen ≡ vals kept
  moved = same_seen ∙ sym same_kept

  pub put_in : (v : Value) (i : ℕ) → IsBetween val_cmp (vals seen) (val_of v) i → new ≡ insert kept i v → vals new ≡ set_insert val_cmp set (val_of v)
  put_in v i between is =
      ap vals is
      ∙ inserted_kept val_cmp val_order same_from_val_cmp val_of kept v i (subst (λ zs. IsBetween val_cmp zs (val_of v) i) moved between)
      ∙ ap (λ zs. set_insert val_cmp zs (val_of v)) same_kept

  pub put_in_ascends : (v : Value) (i : ℕ) → IsBetween val_cmp (vals seen) (val_of v) i → new ≡ insert kept i v → Ascends val_cmp set → Ascends val_cmp (vals new)
  put_in_ascends v i between is up = subst (Ascends val_cmp) (sym (put_in v i between is)) (Ascends-insert val_cmp val_order same_from_val_cmp set (val_of v) up)

  pub taken_out : (x : Val) (i : ℕ) → IsAt val_cmp (vals seen) x i → new ≡ remove kept i → vals new ≡ set_remove val_cmp set x
  taken_out x i at is =
      ap vals is
      ∙ removed_kept val_cmp val_order same_from_val_cmp val_of kept x i (subst (λ zs. IsAt val_cmp zs x i) moved at)
      ∙ ap (λ zs. set_remove val_cmp zs x) same_kept

  pub taken_out_ascends : (x : Val) (i : ℕ) → IsAt val_cmp (vals seen) x i → new ≡ remove kept i → Ascends val_cmp set → Ascends val_cmp (vals new)
  taken_out_ascends x i at is up = subst (Ascends val_cmp) (sym (taken_out x i at is)) (Ascends-remove val_cmp val_order same_from_val_cmp set x up)
