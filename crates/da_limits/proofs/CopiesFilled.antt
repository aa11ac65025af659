-- One method more in the table of the extents of copies.
use Rattle.std.specs.Prelude.{◌≡◌, refl, ℕ, zero, suc, ◌+◌, ◌<◌, ◌≤◌, List, [], ◌∷◌, length, map, Some, slice_get, slice_index, slice_set}
use Rattle.std.specs.Borrow.{Bor}
use Rattle.std.proofs.Common.{◌∙◌, ap, sym, arith, get_or}
use Rattle.std.proofs.lemmas.List.{length-map}
use Rattle.da_lang.specs.ClassParts.{bodies}
use Rattle.da_calls.specs.CallGraph.{IsOrdered, methods_in, number_of}
use Rattle.da_calls.specs.CallMethods.{Numbering, body_of}
use Rattle.da_limits.specs.Copied.{copied, copied_by}
use Rattle.da_calls.specs.declared.graph.CallGraph.{CallGraph}
use Rattle.da_calls.specs.declared.methods.Method.{Method}
use Rattle.da_limits.specs.declared.copies.Copies.{Copies}
use Rattle.da_limits.specs.declared.extent.Extent.{Extent}
use Rattle.da_limits.specs.Extents.{body_extent, method_extent}
use Rattle.da_limits.specs.Loops.{NoneLeadsBack}
use Rattle.da_limits.proofs.MethodExtents.{Filled, filled_step, filled_whole}

body_at : (xs : List Method) (m : ℕ) (x : Method) → m < length xs → x ≡ get_or xs m x → slice_get (map body_of xs) m ≡ Some (body_of x)
body_at [] m x inside here = absurd (omega (arith, inside))
body_at (y ∷ xs) zero x inside here = ap (λ (z : Method). Some (body_of z)) (sym here)
body_at (y ∷ xs) (suc m) x inside here = body_at xs m x (omega (arith, inside)) here

-- what the copies say by the graph that they keep
copied_is : (graph : CallGraph) (copies : Copies) (kept : Bor CallGraph) → copies.graph ≡ kept → kept.now ≡ graph → copied copies ≡ copied_by (number_of graph) copies.extents
unfolding copied
copied_is graph copies kept same is = ap (λ (g : CallGraph). copied_by (number_of g) copies.extents) (ap (λ (b : Bor CallGraph). b.now) same ∙ is)

module _ (graph : CallGraph) (w : Numbering (bodies graph.class.now) (methods_in graph) (number_of graph)) (none_back : NoneLeadsBack graph.class.now) where
  abbrev FilledTo : List ℕ → ℕ → List Extent → Type 0
  FilledTo order = Filled graph.class.now (methods_in graph) (number_of graph) order

  pub copy_step : (order : List ℕ) (copies : Copies) (kept : Bor CallGraph) (methods : List Method) (i : ℕ) (method : Method) (new : Extent) (more : List Extent)
      → IsOrdered graph.class.now (methods_in graph) (number_of graph) order → copies.graph ≡ kept → kept.now ≡ graph → map body_of methods ≡ methods_in graph → i < length order
      → method ≡ get_or methods (slice_index order i) method → new ≡ body_extent (copied copies) (body_of method) → more ≡ slice_set copies.extents (slice_index order i) new → FilledTo order i copies.extents → FilledTo order (i + 1) more
  copy_step order copies kept methods i method new more o same is listed inside here made set f =
      let fits : slice_index order i < length methods = omega (arith, o.within i inside, ap length listed, length-map methods body_of) in
      let body : slice_get (methods_in graph) (slice_index order i) ≡ Some (body_of method) = ap (λ bs. slice_get bs (slice_index order i)) (sym listed) ∙ body_at methods (slice_index order i) method fits here in
      filled_step graph.class.now (methods_in graph) (number_of graph) order w o none_back i copies.extents more (slice_index order i) (body_of method) new inside refl body
      (made ∙ ap (λ called. body_extent called (body_of method)) (copied_is graph copies kept same is)) set f

  pub copies_whole : (order : List ℕ) (copies : Copies) (kept : Bor CallGraph) (i : ℕ) → IsOrdered graph.class.now (methods_in graph) (number_of graph) order → copies.graph ≡ kept → kept.now ≡ graph → length order ≤ i → i ≤ length order
      → FilledTo order i copies.extents → (name : List ℕ) → copied copies name ≡ method_extent (length graph.class.now.members) graph.class.now name
  copies_whole order copies kept i o same is end inside f name =
      ap (λ called. called name) (copied_is graph copies kept same is) ∙ filled_whole graph.class.now (methods_in graph) (number_of graph) order w o none_back i copies.extents end inside f name
