-- What later crates get of an accepted program.
use Rattle.std.specs.Prelude.{◌≡◌, refl, ℕ, zero, suc, ◌<◌, ◌≤◌, ◌^◌, List, [], ◌∷◌, map, length, Some, option_map, slice_get}
use Rattle.std.proofs.Common.{◌∙◌, ap, sym, subst, inl, inr, arith}
use Rattle.std.proofs.lemmas.Option.{slice_get-map}
use Rattle.da_values.specs.Sets.{Has}
use Rattle.da_values.proofs.Members.{of_flat_map}
use Rattle.da_lang.specs.declared.program.Class.{Class}
use Rattle.da_lang.specs.declared.program.ProcDecl.{ProcDecl}
use Rattle.da_lang.specs.declared.program.Program.{Program}
use Rattle.da_lang.specs.declared.tree.Tree.{Tree}
use Rattle.da_lang.specs.Accepted.{IsAccepted, IsResolved}
use Rattle.da_lang.specs.Limits.{Resolves}
use Rattle.da_lang.specs.Resolution.{procs_of, resolved_class}
use Rattle.da_lang.specs.Shaped.{IsProcess}
use Rattle.da_lang.specs.Typing.{IsTyped, Typed, filled_class}
use Rattle.da_lang.specs.World.{at_number, class_of, class_of_decl}
use Rattle.da_types.specs.Sound.{IsSound, IsSoundSetup}
use Rattle.da_types.specs.Totality.{NothingIsMissing}
use Rattle.da_types.proofs.resolved.FewProcesses.{procs_are, process_numbers}
use Rattle.da_types.proofs.resolved.ResolvedConstants.{classes_are}
use Rattle.da_types.proofs.resolved.ResolvedTyped.{resolved_is_typed}
use Rattle.da_types.proofs.resolved.SetupArity.{class_back, class_is_there, resolved_arity}
use Rattle.da_types.proofs.sound.AcceptedSound.{class_is_sound, constants_are_there, filled_classes, filled_procs}
use Rattle.da_types.proofs.totality.HaveValues.{nothing_is_missing}
use Rattle.da_types.proofs.written.TreesFine.{written_fine}

pub accepted : (p q : Program) → IsResolved p → Typed p q → IsAccepted q
accepted p q resolved typed = record { untyped = p; resolved = resolved; typed = typed }

pub is_typed : (q : Program) → IsAccepted q → IsTyped q
is_typed q is = resolved_is_typed is.resolved.tree is.untyped q is.resolved.resolves is.typed

pub is_total : (q : Program) → IsAccepted q → NothingIsMissing q
is_total q is = nothing_is_missing q (is_typed q is)

setups_sound : (t : Tree) (p q : Program) → Resolves t p → Typed p q → (d : ProcDecl) → Has q.procs d → IsSoundSetup q d
setups_sound t p q r typed d has c call at_place is =
    let classes = ap (λ (z : Program). z.classes) typed.becomes ∙ filled_classes p in
    let (before, was, same) = class_back (filled_class p.messages) p.classes d.class c (ap (λ z. slice_get z d.class) (sym classes) ∙ at_place) in
    let procs = ap (λ (z : Program). z.procs) typed.becomes ∙ filled_procs p ∙ ap (λ (z : Program). z.procs) r.becomes ∙ procs_are t in
    let (l, own, made) = of_flat_map (procs_of t) t.main d (subst (λ z. Has z d) procs has) in
    let among = ap (λ z. slice_get z d.class) (sym (ap (λ (z : Program). z.classes) r.becomes ∙ classes_are t)) ∙ was in
    resolved_arity t r.named l own d made call is before among ∙ ap (λ (z : Class). length z.params) same

-- the class of each process is there
decl_placed : (t : Tree) (p q : Program) → Resolves t p → Typed p q → (d : ProcDecl) → Has q.procs d → (c : Class) × (slice_get q.classes d.class ≡ Some c)
decl_placed t p q r typed d has =
    let procs = ap (λ (z : Program). z.procs) typed.becomes ∙ filled_procs p ∙ ap (λ (z : Program). z.procs) r.becomes ∙ procs_are t in
    let (l, own, made) = of_flat_map (procs_of t) t.main d (subst (λ z. Has z d) procs has) in
    let (tree, at_place) = class_is_there t r.named l own d made in
    let fill = filled_class p.messages in
    let classes : q.classes ≡ map fill (map resolved_class t.classes) =
    ap (λ (z : Program). z.classes) typed.becomes ∙ filled_classes p ∙ ap (map fill) (ap (λ (z : Program). z.classes) r.becomes ∙ classes_are t) in
    let resolved_there = slice_get-map resolved_class t.classes d.class ∙ ap (option_map resolved_class) at_place in
    (fill (resolved_class tree), ap (λ z. slice_get z d.class) classes ∙ slice_get-map fill (map resolved_class t.classes) d.class ∙ ap (option_map fill) resolved_there)

numbered_decl : (ds : List ProcDecl) (me : ℕ) → 0 < me → me ≤ length ds → (d : ProcDecl) × (at_number ds me ≡ Some d) × Has ds d
numbered_decl ds zero some inside = absurd (omega (arith, some))
numbered_decl [] (suc k) some inside = absurd (omega (arith, inside))
numbered_decl (d ∷ ds) (suc zero) some inside = (d, refl, inl refl)
numbered_decl (d ∷ ds) (suc (suc k)) some inside =
    let (e, is, has) = numbered_decl ds (suc k) (omega arith) (omega (arith, inside)) in
    (e, is, inr has)

process_placed : (t : Tree) (p q : Program) → Resolves t p → Typed p q → (me : ℕ) → IsProcess q me → (c : Class) × (class_of q me ≡ Some c)
process_placed t p q r typed me is =
    let (d, at_place, has) = numbered_decl q.procs me is.0 is.1 in
    let (c, got) = decl_placed t p q r typed d has in
    (c, ap (class_of_decl q) at_place ∙ got)

few_procs : (t : Tree) (p q : Program) → Resolves t p → Typed p q → length q.procs < 2 ^ 16
few_procs t p q r typed = subst (λ ds. length ds < 2 ^ 16) (sym (ap (λ (z : Program). z.procs) typed.becomes ∙ filled_procs p)) (process_numbers t p r)

pub is_sound : (q : Program) → IsAccepted q → IsSound q
is_sound q is =
    let t = is.resolved.tree in
    let fine = written_fine t is.resolved.written in
    record {
      constants = constants_are_there t is.untyped q is.resolved.resolves is.typed fine;
      classes = class_is_sound t is.untyped q is.resolved.resolves is.typed fine;
      setups = setups_sound t is.untyped q is.resolved.resolves is.typed;
      few = few_procs t is.untyped q is.resolved.resolves is.typed;
      placed = process_placed t is.untyped q is.resolved.resolves is.typed;
    }
