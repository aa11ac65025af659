-- The program of a class is as large as its extent says.
use Rattle.std.specs.Prelude.{◌≡◌, refl, ℕ, zero, suc, ◌+◌, max, List, [], ◌∷◌, ◌++◌, map, length, sum, Option, Some, None}
use Rattle.std.specs.List.{fold}
use Rattle.std.proofs.Common.{◌∙◌, ap, arith, length-append}
use Rattle.std.proofs.lemmas.List.{length-map}
use Rattle.std.proofs.lemmas.List.Sums.{sum_by-cons}
use Rattle.da_lang.specs.declared.program.Handler.{Handler}
use Rattle.da_lang.specs.declared.program.Item.{Item}
use Rattle.da_lang.specs.declared.tree.ClassTree.{ClassTree}
use Rattle.da_lang.specs.declared.tree.Param.{Param}
use Rattle.da_lang.specs.declared.ty.Ty.{Ty}
use Rattle.da_lang.specs.BodyMeaning.{Copy, body_with, class_slots, copies, named_slots, param_slots, untyped, with_params}
use Rattle.da_lang.specs.ClassParts.{Body, bodies_where, is_handler, method_of, params_if, run_of, setup_of, stmts_if, variables}
use Rattle.da_lang.specs.ExprMeaning.{Tables}
use Rattle.da_lang.specs.Limits.{item_count, item_depth, block_depth, class_items, class_blocks}
use Rattle.da_lang.specs.Resolution.{class_tables, handler, handlers, handler_binds, resolved_class, run_items, setup_items}
use Rattle.da_lang.specs.Written.{greatest}
use Rattle.da_lang.proofs.CountsAt.{kind_counted-Call, kind_counted-Pass, kind_depth_of-Call, kind_depth_of-Pass}
use Rattle.da_limits.specs.declared.extent.Extent.{Extent}
use Rattle.da_limits.specs.Extents.{Called, beside, body_extent_if, method_extent, handler_extent, class_extent}
use Rattle.da_limits.proofs.ExtentLaws.{Fits, nothing_fits, beside_fits, wider_fits, fits_as, Copies, body_fits}

-- a body after new slots
widened : {A : Type 0} (types : A → Option Ty) (xs : List A) (tables : Tables) → length (tables.slots ++ map types xs) ≡ length tables.slots + length xs
widened types xs tables = length-append tables.slots (map types xs) ∙ ap (λ n. length tables.slots + n) (length-map xs types)

module _ (copy : Copy) (called : Called) (copied : Copies copy called) (c : ClassTree) where
  -- a body after the slots of its parameters
  abbrev Made : Option Body → Tables → List Item × Tables
  Made method tables = body_with copy (stmts_if method) (param_slots (params_if method) tables (class_slots c)) (with_params (params_if method) tables)

  made_fits : (method : Option Body) (tables : Tables)
      → Fits (body_extent_if called method) (sum (map item_count (Made method tables).0)) (block_depth (map item_depth (Made method tables).0)) (length tables.slots) (length (Made method tables).1.slots)
  made_fits None tables = fits_as _ _ _ _ _ refl refl refl refl (widened (λ (p : Param). Some p.ty) [] tables ∙ omega arith) (nothing_fits (length tables.slots))
  made_fits (Some b) tables =
      wider_fits _ _ _ _ _ _ _ (widened (λ (p : Param). Some p.ty) b.params tables) (body_fits copy called copied b.stmts (param_slots b.params tables (class_slots c)) (with_params b.params tables))

pub copies_fit : (most : ℕ) (c : ClassTree) → Copies (copies most c) (method_extent most c)
unfolding copies method_extent
copies_fit zero c = record { of = λ name args tables. fits_as _ _ _ _ _ refl kind_counted-Pass kind_depth_of-Pass refl refl (nothing_fits (length tables.slots)) }
copies_fit (suc most) c = record {
  of = λ name args tables.
      let items = Made (copies most c) (method_extent most c) (copies_fit most c) c (method_of c name) tables in
      fits_as _ _ _ _ _ refl (kind_counted-Call _ items.0) (kind_depth_of-Call _ items.0) refl refl (made_fits (copies most c) (method_extent most c) (copies_fit most c) c (method_of c name) tables);
}

-- the handlers, one after the other
module _ (c : ClassTree) where
  abbrev most : ℕ
  most = length c.members

  abbrev called : Called
  called = method_extent most c

  abbrev items_of : Handler → ℕ
  items_of h = sum (map item_count h.body)

  abbrev depth_of : Handler → ℕ
  depth_of h = block_depth (map item_depth h.body)

  handler_fits : (b : Body) (tables : Tables) → Fits (handler_extent called b) (items_of (handler c b tables).0) (depth_of (handler c b tables).0) (length tables.slots) (length (handler c b tables).1.slots)
  handler_fits b tables =
      let binds = handler_binds b.place in
      wider_fits _ _ _ _ _ _ _ (widened (λ name. None) binds tables) (body_fits (copies most c) called (copies_fit most c) b.stmts (named_slots binds tables (class_slots c)) (untyped binds tables))

  handlers_from : (bs : List Body) (x : Extent) (a i l : ℕ) (tables : Tables) → Fits x a i l (length tables.slots)
      → Fits (fold beside x (map (handler_extent called) bs)) (a + sum (map items_of (handlers c bs tables).0)) (max i (greatest (map depth_of (handlers c bs tables).0))) l (length (handlers c bs tables).1.slots)
  handlers_from [] x a i l tables f = fits_as _ _ _ _ _ refl (omega arith) (omega arith) refl refl f
  handlers_from (b ∷ bs) x a i l tables f =
      let first = handler c b tables in
      let others = handlers c bs first.1 in
      fits_as _ _ _ _ _ refl (omega (arith, sum_by-cons (λ k. k) (items_of first.0) (map items_of others.0))) (omega arith) refl refl
      (handlers_from bs (beside x (handler_extent called b)) (a + items_of first.0) (max i (depth_of first.0)) l first.1 (beside_fits _ _ _ _ _ _ _ _ _ f (handler_fits b tables)))

  -- numbers of the bodies of a class
  bodies-map : (f : List Item → ℕ) (hs : List Handler) → map f (map (λ (h : Handler). h.body) hs) ≡ map (λ (h : Handler). f h.body) hs
  bodies-map f [] = refl
  bodies-map f (h ∷ hs) = ap (λ ns. f h.body ∷ ns) (bodies-map f hs)

  summed : (f : List Item → ℕ) (setup run : List Item) (hs : List Handler) → sum (map f (setup ∷ run ∷ map (λ (h : Handler). h.body) hs)) ≡ (f setup + f run) + sum (map (λ (h : Handler). f h.body) hs)
  summed f setup run hs =
      let others = map f (map (λ (h : Handler). h.body) hs) in
      omega (arith, sum_by-cons (λ k. k) (f setup) (f run ∷ others), sum_by-cons (λ k. k) (f run) others, ap sum (bodies-map f hs))

  highest : (f : List Item → ℕ) (setup run : List Item) (hs : List Handler) → greatest (map f (setup ∷ run ∷ map (λ (h : Handler). h.body) hs)) ≡ max (max (f setup) (f run)) (greatest (map (λ (h : Handler). f h.body) hs))
  highest f setup run hs = omega (arith, ap greatest (bodies-map f hs))

  pub class_fits : Fits (class_extent c) (class_items (resolved_class c)) (class_blocks (resolved_class c)) 0 (length (resolved_class c).slots)
  unfolding resolved_class
  class_fits =
      let tables = class_tables c in
      let setup = setup_items c in
      let run = run_items c setup.1 in
      let handled = handlers c (bodies_where is_handler c) run.1 in
      let started = made_fits (copies most c) called (copies_fit most c) c (setup_of c) tables in
      let ran = body_fits (copies most c) called (copies_fit most c) (stmts_if (run_of c)) (class_slots c) setup.1 in
      wider_fits _ _ _ _ _ _ _ (length-map (variables c) (λ v. Some v.ty) ∙ omega arith)
      (fits_as _ _ _ _ _ refl (summed (λ items. sum (map item_count items)) setup.0 run.0 handled.0) (highest (λ items. block_depth (map item_depth items)) setup.0 run.0 handled.0) refl refl
      (handlers_from (bodies_where is_handler c) _ _ _ _ run.1 (beside_fits _ _ _ _ _ _ _ _ _ started ran)))
