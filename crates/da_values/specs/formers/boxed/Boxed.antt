-- How a `Boxed` holds its value. A contract sees the value alone; the struct keeps a box of std, which owns it behind a pointer.
use base.Fml.{Fml, Lft, ftrue}
use base.Stored.{gnil}
use denote.Hole.Fix.{over}
use denote.HoleLaws.{Alike}
use denote.HolePlaces.{Recodes, laid, one_value, struct_places}
use denote.Memory.{part_of}
use denote.Model.Placed.{view_places}
use denote.Param.Weighed.{Weighed}
use denote.RattleType.{RattleType}
use denote.RawPtr.{Ptr}
use mathlib.Core.Former.{Former, const, pair, this, via}
use mathlib.Core.List.{List}
use mathlib.Core.Path.{refl}
use mir.Syntax.{Ty}
use mir.Val.{Val}
use Prim.Native.Nat.{ℕ}
use Rattle.da_values.specs.contracts.boxed.Boxed as seen
use Rattle.da_values.specs.contracts.boxed.Boxed.TheInside as kept
use Rattle.da_values.specs.declared.boxed.Boxed.TheInside.{Inside}
use Rattle.da_values.specs.declared.boxed.Boxed.TheView.{view, invariant}
use Rattle.std.specs.contracts.alloc.Global as heap
use Rattle.std.specs.contracts.boxed.Box as pointer
use Rattle.std.specs.contracts.impls.GlobalAllocator.TheImpl.{ghosts}
use Rattle.std.specs.declared.alloc.Global.{Global}
use Rattle.std.specs.declared.boxed.Box.{Box}

-- What a contract sees: one value, as it is.
abbrev pub the_former : Former {0} → Former {0}
the_former each = each

abbrev pub the_weighed : {each : Former {0}} → Weighed each → Weighed (the_former each)
the_weighed measure = measure

-- The box: where the value lies, the allocator that gave the place, and the value.
abbrev parts : Former {0}
parts = pair (const Ptr) (pair (const Global) this)

abbrev taken_apart : (X : Type 0) → Inside X → parts.Of X
taken_apart X inside = (inside.on_heap.ptr, (inside.on_heap.alloc, inside.on_heap.value))

abbrev put_together : (X : Type 0) → parts.Of X → Inside X
put_together X p = record { on_heap = record { ptr = p.0; alloc = p.1.0; value = p.1.1 } }

abbrev as_kept : Former {0}
as_kept = via parts Inside taken_apart put_together (λ X inside. refl) (λ X p. refl)

-- Two types whose values lie alike, along `h`.
module _ (R R' : RattleType) (h : R.Denot → R'.Denot) where
  abbrev along : Inside R.Denot → Inside R'.Denot
  along = as_kept.map R.Denot R'.Denot h

  abbrev box_along : Box R.Denot Global → Box R'.Denot Global
  box_along b = record { ptr = b.ptr; alloc = b.alloc; value = h b.value }

  -- The row of a box reads of the row of its value no more than these three.
  abbrev box_of : List Ty → (List Val → Fml) → (ℕ → ℕ → Lft → Fml) → RattleType
  box_of layout owned lent = pointer.the_row (one_value R layout owned lent gnil) heap.the_row ghosts

  abbrev opened : Box R.Denot Global → Box (Unit {0}) Global
  opened b = record { ptr = b.ptr; alloc = b.alloc; value = tt }

  box_alike : Alike R R' h → Alike (pointer.the_row R heap.the_row ghosts) (pointer.the_row R' heap.the_row ghosts) box_along
  unfolding part_of
  box_alike same = record {
    mir_same = λ i. (box_of (same.mir_same i) (λ vs. ftrue) (λ b o κ. ftrue)).mir;
    own_same = λ b i. (box_of (same.mir_same i) (same.own_same b.value i) (same.shr_same b.value i)).own_val (opened b);
    shr_same = λ b i. (box_of (same.mir_same i) (same.own_same b.value i) (same.shr_same b.value i)).shr_at (opened b);
  }

  box_kept : Alike R R' h → Alike (kept.the_row R) (kept.the_row R') along
  box_kept same = struct_places (kept.the_type R) (kept.the_type R') (box_along, tt) along (λ inside. refl) refl (laid _ _ _ (box_alike same), tt)

  pub the_places : Alike R R' h → Alike (seen.the_row R) (seen.the_row R') ((the_former this).map R.Denot R'.Denot h)
  the_places same = view_places as_kept (the_former this) view (λ X Y f inside. refl) (λ X inside. refl) R.Denot R'.Denot h (seen.the_row R).coded (seen.the_row R').coded
      (invariant R.Denot) (invariant R'.Denot) (λ inside held again. refl) (λ inside held again. refl) (λ inside held. held) (λ inside held. held)
      (over (kept.the_row R)) (over (kept.the_row R')) (box_kept same)

  pub the_codes_placed : Recodes R R' h → Recodes (seen.the_row R) (seen.the_row R') ((the_former this).map R.Denot R'.Denot h)
  the_codes_placed same = same
