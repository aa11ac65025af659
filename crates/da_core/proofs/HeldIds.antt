-- Which values are in a pool of which only these ids are held: those that they name, with all that is within them.
use Rattle.std.specs.Prelude.{◌≡◌, ◌⊎◌, ◌==◌, ◌+◌, ◌<◌, ◌≤◌, ℕ, zero, suc, if◌then◌else◌, List, [], ◌∷◌, ◌++◌, length, map, get_or, Option, Some, None, refl}
use Rattle.std.proofs.Common.{sym, ap, ◌∙◌, subst, inl, inr, arith}
use Rattle.std.proofs.lemmas.Bool.{cases_eq, cases_lt}
use Rattle.da_values.specs.Order.{val_cmp}
use Rattle.da_values.specs.OrderLaws.{val_order, same_from_val_cmp}
use Rattle.da_values.specs.Sets.{Ascends, Has, canon}
use Rattle.da_values.specs.Value.{val_of}
use Rattle.da_values.specs.declared.val.Val.{Val}
use Rattle.da_values.proofs.Members.{Has-append_left, Has-append_right, Has-map, of_append, of_map}
use Rattle.da_values.proofs.SetLaws.{Ascends-canon, Has-canon, of_canon}
use Rattle.row_pool.specs.declared.cell.Cell.{Cell}
use Rattle.row_pool.specs.Cells.{Cells, cell_at, count, holders_at, holders_in, inside, outside, value_at, value_in}
use Rattle.row_pool.specs.InUse.{AreHeld, InUse, IsCounted, IsHeld, Within}
use Rattle.row_pool.specs.Pool.{HoldsAll, or_no_value, val_at}
use Rattle.row_pool.proofs.CountLaws.{count_more, count_other, count_self}

-- THE SET OF ALL VALUES

values_in : Cells → List Val
values_in [] = []
values_in (None ∷ cs) = values_in cs
values_in (Some c ∷ cs) = val_of c.value ∷ values_in cs

has_value : (s : Cells) (k : ℕ) (x : Val) → value_at s k ≡ Some x → Has (values_in s) x
unfolding values_in
has_value [] k x is = absurd (cc is)
has_value (None ∷ cs) zero x is = absurd (cc is)
has_value (Some c ∷ cs) zero x is = let same : val_of c.value ≡ x = cc is in inl (sym same)
has_value (None ∷ cs) (suc k) x is = has_value cs k x is
has_value (Some c ∷ cs) (suc k) x is = inr (has_value cs k x is)

value_there : (s : Cells) (x : Val) → Has (values_in s) x → (k : ℕ) × (value_at s k ≡ Some x)
unfolding values_in
value_there [] x has = absurd has
value_there (None ∷ cs) x has = let (k, at) = value_there cs x has in (suc k, at)
value_there (Some c ∷ cs) x (inl e) = (zero, ap Some (sym e))
value_there (Some c ∷ cs) x (inr h) = let (k, at) = value_there cs x h in (suc k, at)

-- there is a set of those that are held
pub all_values : (s : Cells) → InUse s → (set : List Val) × AreHeld s set
all_values s used = (
  canon val_cmp (values_in s),
  record {
    ascends = Ascends-canon val_cmp val_order same_from_val_cmp (values_in s);
    all = λ x held. let (k, at) = used.used x held in Has-canon val_cmp val_order same_from_val_cmp (values_in s) x (has_value s k x at);
    only = λ x has. let (k, at) = value_there s x (of_canon val_cmp val_order same_from_val_cmp (values_in s) x has) in used.held k x at;
  },
)

-- THE IDS THAT ARE HELD

counted_from_has : (k : ℕ) (ids : List ℕ) → Has ids k → 0 < count k ids
counted_from_has k [] has = absurd has
counted_from_has k (i ∷ is) (inl e) = omega (arith, count_more k i is, ap (λ n. count k (n ∷ [])) e, count_self k)
counted_from_has k (i ∷ is) (inr h) = omega (arith, counted_from_has k is h)

has_from_counted : (k : ℕ) (ids : List ℕ) → 0 < count k ids → Has ids k
has_from_counted k [] some = absurd (omega (arith, some))
has_from_counted k (i ∷ is) some = go (cases_eq k i) (λ more. has_from_counted k is more)
  where
    go : (k ≡ i) ⊎ (k ≡ i → ⊥) → (0 < count k is → Has is k) → Has (i ∷ is) k
    go (inl e) later = inl e
    go (inr ne) later = inr (later (omega (arith, some, count_more k i is, count_other k i ne)))

named : (s : Cells) (k : ℕ) (o : Option Cell) → cell_at s k ≡ o → 0 < holders_at s k → value_at s k ≡ Some (val_at s k)
named s k None at some = let none : holders_at s k ≡ 0 = ap holders_in at in absurd (omega (arith, some, none))
named s k (Some c) at some = let value : value_at s k ≡ Some (val_of c.value) = ap value_in at in value ∙ ap Some (sym (ap or_no_value value))

module _ (pool : Cells) (ids : List ℕ) (held : HoldsAll pool ids) (counted : IsCounted pool) where
  -- an id that is held names its value
  pub held_by : (k : ℕ) (x : Val) → Has ids k → Within (val_at pool k) x → IsHeld pool [] x
  held_by k x has within =
      let some = counted_from_has k ids has in
      record {
        key = k;
        value = val_at pool k;
        there = named pool k (cell_at pool k) refl (omega (arith, some, held.all k, counted.counted k));
        held = omega (arith, some, held.all k);
        within = within;
      }

  pub holder_of : (x : Val) → IsHeld pool [] x → (k : ℕ) × Has ids k × Within (val_at pool k) x
  holder_of x h =
      let same : h.value ≡ val_at pool h.key = sym (ap or_no_value h.there) in
      (h.key, has_from_counted h.key ids (omega (arith, h.held, held.all h.key)), subst (λ z. Within z x) same h.within)
