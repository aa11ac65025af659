-- The extents of the copies of methods, filled in after those of the methods that each calls.
use Rattle.std.specs.Prelude.{◌≡◌, refl, ℕ, zero, suc, ◌+◌, ◌<◌, ◌≤◌, ◌⊎◌, List, [], ◌∷◌, ◌++◌, length, take, Option, Some, None, option_and_then, filter_map, slice_get, slice_index, slice_set, unwrap_or, Contains}
use Rattle.std.proofs.Common.{◌∙◌, ap, sym, subst, arith, inl, inr, ⊎_elim, get_or}
use Rattle.std.proofs.lemmas.Bool.{cases_eq}
use Rattle.std.proofs.lemmas.List.{take_all}
use Rattle.da_lang.specs.declared.tree.ClassTree.{ClassTree}
use Rattle.da_lang.specs.Calls.{called, calls_in}
use Rattle.da_lang.specs.ClassParts.{Body, bodies, method_of, stmts_if}
use Rattle.da_lang.specs.Deeds.{Deed, deeds}
use Rattle.da_calls.specs.CallGraph.{IsOrdered}
use Rattle.da_calls.specs.CallMethods.{Numbering}
use Rattle.da_limits.specs.Copied.{copied_by}
use Rattle.da_limits.specs.declared.extent.Extent.{Extent}
use Rattle.da_limits.specs.Extents.{nothing, wider, body_extent, body_extent_if, method_extent}
use Rattle.da_limits.specs.Loops.{NoneLeadsBack}
use Rattle.da_calls.proofs.CallBounds.{in_first, in_later, in_cases, in_none}
use Rattle.da_limits.proofs.ExtentsAgree.{blocks_agree}
use Rattle.da_limits.proofs.Numbered.{order_short}
use Rattle.da_lang.proofs.Taken.{taken}

-- the extents of the methods in a prefix of the order stand
pub record Filled (c : ClassTree) (methods : List Body) (number : List ℕ → Option ℕ) (order : List ℕ) (i : ℕ) (extents : List Extent) : Type 0 where
  pub sized : length extents ≡ length methods
  pub stands : (name : List ℕ) (k most : ℕ) → number name ≡ Some k → Contains (take i order) k → i ≤ most → copied_by number extents name ≡ method_extent most c name

copied-none : (number : List ℕ → Option ℕ) (extents : List Extent) (name : List ℕ) → number name ≡ None → copied_by number extents name ≡ nothing
unfolding copied_by
copied-none number extents name none = ap (λ n. unwrap_or (option_and_then (slice_get extents) n) nothing) none

copied-some : (number : List ℕ → Option ℕ) (extents : List Extent) (name : List ℕ) (k : ℕ) → number name ≡ Some k → copied_by number extents name ≡ unwrap_or (slice_get extents k) nothing
unfolding copied_by
copied-some number extents name k is = ap (λ n. unwrap_or (option_and_then (slice_get extents) n) nothing) is

method_none : (most : ℕ) (c : ClassTree) (name : List ℕ) → method_of c name ≡ None → method_extent most c name ≡ nothing
unfolding method_extent
method_none zero c name none = refl
method_none (suc most) c name none = ap (body_extent_if (method_extent most c)) none

method_some : (most : ℕ) (c : ClassTree) (name : List ℕ) (b : Body) → method_of c name ≡ Some b → method_extent (suc most) c name ≡ body_extent (method_extent most c) b
unfolding method_extent
method_some most c name b is = ap (body_extent_if (method_extent most c)) is

-- what a method calls, as `calls_in` has it
abbrev called_in : Option Body → List (List ℕ)
called_in m = filter_map (λ (d : Deed). called d.does) (deeds (stmts_if m))

at_itself : (xs : List ℕ) (i : ℕ) → i < length xs → slice_index xs i ≡ get_or xs i (slice_index xs i)
at_itself [] i inside = absurd (omega (arith, inside))
at_itself (x ∷ xs) zero inside = refl
at_itself (x ∷ xs) (suc i) inside = at_itself xs i (omega (arith, inside))

module _ (c : ClassTree) (methods : List Body) (number : List ℕ → Option ℕ) (order : List ℕ) (w : Numbering (bodies c) methods number) (o : IsOrdered c methods number order) (none_back : NoneLeadsBack c) where
  abbrev FilledTo : ℕ → List Extent → Type 0
  FilledTo = Filled c methods number order

  -- of a name without a method nothing is copied
  unknown : (extents : List Extent) (most : ℕ) (name : List ℕ) → number name ≡ None → copied_by number extents name ≡ method_extent most c name
  unknown extents most name none = copied-none number extents name none ∙ sym (method_none most c name (w.found name ∙ ap (λ n. option_and_then (slice_get methods) n) none))

  -- what the method at the next place calls stands already
  callee : (i : ℕ) (extents : List Extent) (name next : List ℕ) (most : ℕ) (n : Option ℕ) → number next ≡ n → i < length order → number name ≡ Some (slice_index order i) → FilledTo i extents → i ≤ most → Contains (calls_in c name) next
      → copied_by number extents next ≡ method_extent most c next
  callee i extents name next most None is inside this f enough calls = unknown extents most next is
  callee i extents name next most (Some k) is inside this f enough calls = f.stands next k most is (o.behind i name next k inside this is calls (none_back name next calls)) enough

  found_at : (name : List ℕ) (k : ℕ) (b : Body) → number name ≡ Some k → slice_get methods k ≡ Some b → method_of c name ≡ Some b
  found_at name k b is here = w.found name ∙ ap (λ n. option_and_then (slice_get methods) n) is ∙ here

  -- the method at the next place
  next_stands : (i : ℕ) (extents : List Extent) (name : List ℕ) (b : Body) (most : ℕ) → i < length order → number name ≡ Some (slice_index order i) → slice_get methods (slice_index order i) ≡ Some b → FilledTo i extents → i ≤ most
      → body_extent (copied_by number extents) b ≡ method_extent (suc most) c name
  next_stands i extents name b most inside this here f enough =
      let found = found_at name (slice_index order i) b this here in
      let same : (next : List ℕ) → Contains (calls_in c name) next → copied_by number extents next ≡ method_extent most c next = λ next calls. callee i extents name next most (number next) refl inside this f enough calls in
      ap (wider (length b.params)) (blocks_agree (copied_by number extents) (method_extent most c) b.stmts (λ next calls. same next (subst (λ m. Contains (called_in m) next) (sym found) calls)))
      ∙ sym (method_some most c name b found)

  in_end : (xs : List ℕ) (y k : ℕ) → Contains (xs ++ y ∷ []) k → Contains xs k ⊎ (y ≡ k)
  in_end [] y k has = ⊎_elim (λ e. inr e) (λ h. absurd (in_none k h)) (in_cases y [] k has)
  in_end (x ∷ xs) y k has = ⊎_elim (λ e. inl (subst (λ z. Contains (x ∷ xs) z) e (in_first x xs))) (λ h. ⊎_elim (λ i. inl (in_later x xs k i)) (λ e. inr e) (in_end xs y k h)) (in_cases x (xs ++ y ∷ []) k has)

  get_set_same : (xs : List Extent) (k : ℕ) (y : Extent) → k < length xs → slice_get (slice_set xs k y) k ≡ Some y
  get_set_same [] k y inside = absurd (omega (arith, inside))
  get_set_same (x ∷ xs) zero y inside = refl
  get_set_same (x ∷ xs) (suc k) y inside = get_set_same xs k y (omega (arith, inside))

  get_set_other : (xs : List Extent) (k j : ℕ) (y : Extent) → (k ≡ j → ⊥) → slice_get (slice_set xs k y) j ≡ slice_get xs j
  get_set_other [] k j y other = refl
  get_set_other (x ∷ xs) zero zero y other = absurd (other refl)
  get_set_other (x ∷ xs) zero (suc j) y other = refl
  get_set_other (x ∷ xs) (suc k) zero y other = refl
  get_set_other (x ∷ xs) (suc k) (suc j) y other = get_set_other xs k j y (λ e. other (ap suc e))

  length-set : (xs : List Extent) (k : ℕ) (y : Extent) → length (slice_set xs k y) ≡ length xs
  length-set [] k y = refl
  length-set (x ∷ xs) zero y = refl
  length-set (x ∷ xs) (suc k) y = ap suc (length-set xs k y)

  pub filled_none : (extents : List Extent) → length extents ≡ length methods → FilledTo 0 extents
  filled_none extents sized = record { sized = sized; stands = λ name k most is has enough. absurd (in_none k has) }

  placed_same : (extents : List Extent) (name : List ℕ) (m : ℕ) (new : Extent) → number name ≡ Some m → m < length extents → copied_by number (slice_set extents m new) name ≡ new
  placed_same extents name m new is inside = copied-some number (slice_set extents m new) name m is ∙ ap (λ e. unwrap_or e nothing) (get_set_same extents m new inside)

  placed_other : (extents : List Extent) (name : List ℕ) (m k : ℕ) (new : Extent) → number name ≡ Some k → (m ≡ k → ⊥) → copied_by number (slice_set extents m new) name ≡ copied_by number extents name
  placed_other extents name m k new is other =
      copied-some number (slice_set extents m new) name k is ∙ ap (λ e. unwrap_or e nothing) (get_set_other extents m k new other) ∙ sym (copied-some number extents name k is)

  at_next : (i : ℕ) (extents : List Extent) (b : Body) (new : Extent) (name : List ℕ) (most : ℕ) → i < length order → slice_get methods (slice_index order i) ≡ Some b → slice_index order i < length extents → new ≡ body_extent (copied_by number extents) b
      → FilledTo i extents → number name ≡ Some (slice_index order i) → i + 1 ≤ most → copied_by number (slice_set extents (slice_index order i) new) name ≡ method_extent most c name
  at_next i extents b new name zero inside here fits made f is enough = absurd (omega (arith, enough))
  at_next i extents b new name (suc most) inside here fits made f is enough =
      placed_same extents name (slice_index order i) new is fits ∙ made ∙ next_stands i extents name b most inside is here f (omega (arith, enough))

  earlier : (i k : ℕ) → i < length order → Contains (take (i + 1) order) k → Contains (take i order) k ⊎ (slice_index order i ≡ k)
  earlier i k inside has = in_end (take i order) (slice_index order i) k (subst (λ xs. Contains xs k) (taken order i (slice_index order i) inside (at_itself order i inside)) has)

  stands_by : (i : ℕ) (extents : List Extent) (b : Body) (new : Extent) (name : List ℕ) (k most : ℕ) → i < length order → slice_get methods (slice_index order i) ≡ Some b → slice_index order i < length extents → new ≡ body_extent (copied_by number extents) b
      → FilledTo i extents → number name ≡ Some k → Contains (take (i + 1) order) k → i + 1 ≤ most → (slice_index order i ≡ k) ⊎ (slice_index order i ≡ k → ⊥)
      → copied_by number (slice_set extents (slice_index order i) new) name ≡ method_extent most c name
  stands_by i extents b new name k most inside here fits made f is has enough (inl same) = at_next i extents b new name most inside here fits made f (is ∙ ap Some (sym same)) enough
  stands_by i extents b new name k most inside here fits made f is has enough (inr other) =
      let before = ⊎_elim (λ h. h) (λ e. absurd (other e)) (earlier i k inside has) in
      placed_other extents name (slice_index order i) k new is other ∙ f.stands name k most is before (omega (arith, enough))

  -- one more place of the order
  pub filled_step : (i : ℕ) (extents more : List Extent) (m : ℕ) (b : Body) (new : Extent) → i < length order → m ≡ slice_index order i → slice_get methods m ≡ Some b → new ≡ body_extent (copied_by number extents) b → more ≡ slice_set extents m new
      → FilledTo i extents → FilledTo (i + 1) more
  filled_step i extents more m b new inside place here made set f =
      let spot : slice_set extents m new ≡ slice_set extents (slice_index order i) new = ap (λ n. slice_set extents n new) place in
      let there : slice_get methods (slice_index order i) ≡ Some b = ap (slice_get methods) (sym place) ∙ here in
      let fits : slice_index order i < length extents = omega (arith, o.within i inside, f.sized) in
      let stepped : FilledTo (i + 1) (slice_set extents (slice_index order i) new) = record {
        sized = length-set extents (slice_index order i) new ∙ f.sized;
        stands = λ name k most is has enough. stands_by i extents b new name k most inside there fits made f is has enough (cases_eq (slice_index order i) k);
      } in
      subst (FilledTo (i + 1)) (sym (set ∙ spot)) stepped

  -- all places: each name has the extent of the copy of its method
  whole_by : (i : ℕ) (extents : List Extent) (name : List ℕ) (n : Option ℕ) → number name ≡ n → length order ≤ i → i ≤ length order → FilledTo i extents → copied_by number extents name ≡ method_extent (length c.members) c name
  whole_by i extents name None is end inside f = unknown extents (length c.members) name is
  whole_by i extents name (Some k) is end inside f =
      let has : Contains (take i order) k = subst (λ xs. Contains xs k) (sym (take_all i order end)) (o.all k (w.within name k is)) in
      f.stands name k (length c.members) is has (omega (arith, inside, order_short c methods number order w o))

  pub filled_whole : (i : ℕ) (extents : List Extent) → length order ≤ i → i ≤ length order → FilledTo i extents → (name : List ℕ) → copied_by number extents name ≡ method_extent (length c.members) c name
  filled_whole i extents end inside f name = whole_by i extents name (number name) refl end inside f
