-- The slots that a class binds, in the order of the flow, are those without a type, each once.
use Rattle.std.specs.Prelude.{◌≡◌, refl, List, [], ◌∷◌, ◌++◌, map, length}
use Rattle.std.proofs.Common.{◌∙◌, ap, sym}
use Rattle.da_lang.specs.declared.tree.ClassTree.{ClassTree}
use Rattle.da_lang.specs.BodyMeaning.{fresh, named_slots, untyped, with_params, param_slots, class_slots, copies}
use Rattle.da_lang.specs.ClassParts.{Body, bodies_where, variables, is_handler, setup_of, params_if, stmts_if, run_of}
use Rattle.da_lang.specs.ExprMeaning.{Tables}
use Rattle.da_lang.specs.Resolution.{handler_binds, handler, handlers, class_tables, setup_items, run_items, resolved_class}
use Rattle.untyped_laws.specs.Flow.{joined, bound, body_steps, handler_steps, class_steps, lacking}
use Rattle.untyped_laws.proofs.Growth.{Grown, grown_then, grown_none, grown_untyped, grown_params, grown_typed, grown_both, body_append}
use Rattle.untyped_laws.proofs.StmtBinds.{body_brings, copies_bring}

module _ (c : ClassTree) where
  handler_brings : (b : Body) (a : Tables) → Grown a (handler c b a).1 (bound (handler_steps (handler c b a).0))
  handler_brings b a =
      let names = handler_binds b.place in
      let s = named_slots names a (class_slots c) in
      let made = handler c b a in
      grown_then a (untyped names a) made.1 (fresh a (length names)) (bound (body_steps made.0.body)) (grown_untyped names a) (body_brings (copies (length c.members) c) (copies_bring (length c.members) c) b.stmts s (untyped names a))

  handlers_bring : (bs : List Body) (a : Tables) → Grown a (handlers c bs a).1 (bound (joined (map handler_steps (handlers c bs a).0)))
  handlers_bring [] a = grown_none a a refl
  handlers_bring (b ∷ bs) a =
      let first = handler c b a in
      let others = handlers c bs first.1 in
      grown_both a first.1 others.1 (handler_steps first.0) (joined (map handler_steps others.0)) (handler_brings b a) (handlers_bring bs first.1)

  setup_brings : Grown (class_tables c) (setup_items c).1 (bound (body_steps (setup_items c).0))
  setup_brings =
      let ps = params_if (setup_of c) in
      let b = with_params ps (class_tables c) in
      grown_then (class_tables c) b (setup_items c).1 [] (bound (body_steps (setup_items c).0)) (grown_params ps (class_tables c))
      (body_brings (copies (length c.members) c) (copies_bring (length c.members) c) (stmts_if (setup_of c)) (param_slots ps (class_tables c) (class_slots c)) b)

  run_brings : (a : Tables) → Grown a (run_items c a).1 (bound (body_steps (run_items c a).0))
  run_brings a = body_brings (copies (length c.members) c) (copies_bring (length c.members) c) (stmts_if (run_of c)) (class_slots c) a

  pub class_binds : bound (class_steps (resolved_class c)) ≡ lacking 1 (resolved_class c).slots
  unfolding resolved_class
  class_binds =
      let setup = setup_items c in
      let run = run_items c setup.1 in
      let handled = handlers c (bodies_where is_handler c) run.1 in
      let empty : Tables = record { slots = []; queries = [] } in
      let steps = joined (map handler_steps handled.0) in
      let items = grown_both (class_tables c) setup.1 run.1 (body_steps setup.0) (body_steps run.0) setup_brings (run_brings setup.1) in
      let all = grown_both (class_tables c) run.1 handled.1 (body_steps setup.0 ++ body_steps run.0) steps items (handlers_bring (bodies_where is_handler c) run.1) in
      let whole = grown_then empty (class_tables c) handled.1 [] (bound ((body_steps setup.0 ++ body_steps run.0) ++ steps)) (grown_typed (λ v. v.ty) (variables c) (class_tables c) refl) all in
      ap (λ z. bound (z ++ steps)) (body_append setup.0 run.0) ∙ whole.lacks ∙ ap (lacking 1) (sym whole.slots)
