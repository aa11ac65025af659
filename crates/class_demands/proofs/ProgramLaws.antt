-- The rules of types in a program are what the program demands.
use Rattle.std.specs.Prelude.{◌≡◌, refl, ℕ, ◌&&◌, List, [], ◌∷◌, map, flat_map, Option, Some, None, option_map, slice_get}
use Rattle.std.proofs.Common.{◌∙◌, ap, ap₂, sym}
use Rattle.std.proofs.lemmas.Option.{slice_get-map}
use Rattle.da_lang.specs.declared.program.Class.{Class}
use Rattle.da_lang.specs.declared.program.ProcDecl.{ProcDecl}
use Rattle.da_lang.specs.declared.program.RExpr.{RExpr}
use Rattle.da_lang.specs.declared.program.SetupCall.{SetupCall}
use Rattle.da_lang.specs.declared.tree.ClassTree.{ClassTree}
use Rattle.da_lang.specs.declared.tree.MessageDecl.{MessageDecl}
use Rattle.da_lang.specs.declared.tree.Tree.{Tree}
use Rattle.da_lang.specs.Resolution.{resolved, resolved_class, procs_of}
use Rattle.da_lang.specs.Typing as typing
use Rattle.da_lang.specs.Typing.{class_breaks, call_breaks, filled_class, filled_slots, filled, breaks_in, type_breaks}
use Rattle.type_table.specs.Fits.{Meaning}
use Rattle.type_demands.specs.Demands.{all_met, at_line}
use Rattle.type_demands.proofs.FoundLaws.{met_both}
use Rattle.untyped_laws.specs.Flow.{class_steps}
use Rattle.untyped_laws.specs.Retyped.{put_message, put_slots, put_program}
use Rattle.class_demands.specs.Heads.{heads}
use Rattle.class_demands.specs.Prefix.{none_upto, upto, needed, always, class_upto, heads_of, setup_upto, demands_upto}
use Rattle.class_demands.specs.Programs.{class_context, class_demands, call_demands, setup_demands, program_demands}
use Rattle.class_demands.specs.Statements.{args_fit}
use Rattle.class_demands.specs.Unknowns.{put, declared_slot, declared_message}
use Rattle.class_demands.proofs.Below.{Below}
use Rattle.class_demands.proofs.ClassLaws.{head, class_means, class_met}
use Rattle.class_demands.proofs.NeededLaws.{heads_needed}
use Rattle.class_demands.proofs.PrefixLaws.{none_both, told_line}
use Rattle.class_demands.proofs.RuleLaws.{args_hold, args_met}

module _ (m : Meaning) (n : ℕ) (below : Below) (messages : List MessageDecl) where
  abbrev typed_messages : List MessageDecl
  typed_messages = map (put_message (put m)) messages

  -- a class with its types
  abbrev whole : Class → Class
  whole c = filled_class typed_messages (put_slots (put m) c)

  classes_met : (cs : List ClassTree) → none_upto n (flat_map (class_breaks typed_messages) (map (filled_class typed_messages) (map (put_slots (put m)) (map resolved_class cs))))
      ≡ all_met m always (flat_map (class_upto n) (map (class_demands (map declared_message messages)) (map resolved_class cs)))
  classes_met [] = refl
  classes_met (c ∷ cs) =
      none_both n (class_breaks typed_messages (whole (resolved_class c))) (flat_map (class_breaks typed_messages) (map (filled_class typed_messages) (map (put_slots (put m)) (map resolved_class cs))))
      ∙ ap₂ (λ a b. a && b) (class_met m below messages c n) (classes_met cs)
      ∙ sym (met_both m always (class_upto n (class_demands (map declared_message messages) (resolved_class c))) (flat_map (class_upto n) (map (class_demands (map declared_message messages)) (map resolved_class cs))))

  -- the arguments of `setup`, by the class with its types
  args_are : (c : Class) (params : List ℕ) (xs : List RExpr) → typing.args_fit typed_messages c params xs ≡ args_hold typed_messages c.queries c.slots params xs
  args_are c [] xs = refl
  args_are c (param ∷ params) [] = refl
  args_are c (param ∷ params) (x ∷ xs) = ap (λ b. typing.fits_slot typed_messages c.queries c.slots param x && b) (args_are c params xs)

  setup_met : (c : ClassTree) (call : Option SetupCall) → none_upto n (call_breaks typed_messages (Some (whole (resolved_class c))) call)
      ≡ all_met m always (needed (heads (map declared_message messages) (resolved_class c).queries (class_steps (resolved_class c)) (map declared_slot (resolved_class c).slots)) (upto n (call_demands (map declared_message messages) (Some (resolved_class c)) call)))
  setup_met c None = heads_needed m (heads (map declared_message messages) (resolved_class c).queries (class_steps (resolved_class c)) (map declared_slot (resolved_class c).slots)) always []
  setup_met c (Some call) =
      let x = resolved_class c in
      let hs = heads (map declared_message messages) x.queries (class_steps x) (map declared_slot x.slots) in
      let context = class_context (map declared_message messages) x in
      told_line n m (head m below messages c) call.line (typing.args_fit typed_messages (whole x) x.params call.args) (args_fit context x.queries x.params call.args)
      (args_are (whole x) x.params call.args ∙ args_met m (head m below messages c) below typed_messages x.queries (filled_slots typed_messages (put_slots (put m) x)) context (class_means m below messages c) x.params call.args)
      ∙ heads_needed m hs always (upto n (at_line call.line (args_fit context x.queries x.params call.args)))

  -- by the class of a process, if there is one
  at_class : (o : Option ClassTree) (call : Option SetupCall) → none_upto n (call_breaks typed_messages (option_map (filled_class typed_messages) (option_map (put_slots (put m)) (option_map resolved_class o))) call)
      ≡ all_met m always (needed (heads_of (option_map (class_demands (map declared_message messages)) (option_map resolved_class o))) (upto n (call_demands (map declared_message messages) (option_map resolved_class o) call)))
  unfolding class_demands
  at_class None call = refl
  at_class (Some c) call = setup_met c call

  proc_met : (cs : List ClassTree) (p : ProcDecl) → none_upto n (call_breaks typed_messages (slice_get (map (filled_class typed_messages) (map (put_slots (put m)) (map resolved_class cs))) p.class) p.setup)
      ≡ all_met m always (setup_upto n (map (class_demands (map declared_message messages)) (map resolved_class cs)) (setup_demands (map declared_message messages) (map resolved_class cs) p))
  unfolding setup_demands
  proc_met cs p =
      let own = slice_get-map resolved_class cs p.class in
      ap (λ z. none_upto n (call_breaks typed_messages z p.setup)) (slice_get-map (filled_class typed_messages) (map (put_slots (put m)) (map resolved_class cs)) p.class ∙ ap (option_map (filled_class typed_messages)) (slice_get-map (put_slots (put m)) (map resolved_class cs) p.class ∙ ap (option_map (put_slots (put m))) own))
      ∙ at_class (slice_get cs p.class) p.setup
      ∙ sym (ap₂ (λ z w. all_met m always (needed (heads_of z) (upto n (call_demands (map declared_message messages) w p.setup)))) (slice_get-map (class_demands (map declared_message messages)) (map resolved_class cs) p.class ∙ ap (option_map (class_demands (map declared_message messages))) own) own)

  procs_met : (cs : List ClassTree) (ps : List ProcDecl)
      → none_upto n (flat_map (λ (p : ProcDecl). call_breaks typed_messages (slice_get (map (filled_class typed_messages) (map (put_slots (put m)) (map resolved_class cs))) p.class) p.setup) ps)
      ≡ all_met m always (flat_map (setup_upto n (map (class_demands (map declared_message messages)) (map resolved_class cs))) (map (setup_demands (map declared_message messages) (map resolved_class cs)) ps))
  procs_met cs [] = refl
  procs_met cs (p ∷ ps) =
      none_both n (call_breaks typed_messages (slice_get (map (filled_class typed_messages) (map (put_slots (put m)) (map resolved_class cs))) p.class) p.setup)
      (flat_map (λ (q : ProcDecl). call_breaks typed_messages (slice_get (map (filled_class typed_messages) (map (put_slots (put m)) (map resolved_class cs))) q.class) q.setup) ps)
      ∙ ap₂ (λ a b. a && b) (proc_met cs p) (procs_met cs ps)
      ∙ sym (met_both m always (setup_upto n (map (class_demands (map declared_message messages)) (map resolved_class cs)) (setup_demands (map declared_message messages) (map resolved_class cs) p))
      (flat_map (setup_upto n (map (class_demands (map declared_message messages)) (map resolved_class cs))) (map (setup_demands (map declared_message messages) (map resolved_class cs)) ps)))

pub programs_met : (below : Below) (m : Meaning) (t : Tree) (n : ℕ) → none_upto n (type_breaks (put_program (put m) (resolved t))) ≡ all_met m always (demands_upto n (program_demands (resolved t)))
unfolding type_breaks breaks_in filled resolved program_demands demands_upto
programs_met below m t n =
    let cs = t.classes in
    let ps = flat_map (procs_of t) t.main in
    let own = map (put_message (put m)) t.messages in
    let typed = map (filled_class own) (map (put_slots (put m)) (map resolved_class cs)) in
    let asked = map (class_demands (map declared_message t.messages)) (map resolved_class cs) in
    none_both n (flat_map (class_breaks own) typed) (flat_map (λ (p : ProcDecl). call_breaks own (slice_get typed p.class) p.setup) ps)
    ∙ ap₂ (λ a b. a && b) (classes_met m n below t.messages cs) (procs_met m n below t.messages cs ps)
    ∙ sym (met_both m always (flat_map (class_upto n) asked) (flat_map (setup_upto n asked) (map (setup_demands (map declared_message t.messages) (map resolved_class cs)) ps)))
