-- The earliest line of a program, and what it means that there is none.
use Rattle.std.specs.Prelude.{◌≡◌, refl, Bool, true, false, ℕ, ◌<◌, List, [], ◌∷◌, ◌++◌, flat_map, length, remove, slice_get, Option, Some, None}
use Rattle.std.proofs.Common.{◌∙◌, ap, sym, arith}
use Rattle.std.proofs.lemmas.Grind.{flat_map-append}
use Rattle.da_lang.specs.declared.program.Class.{Class}
use Rattle.da_lang.specs.declared.program.Program.{Program}
use Rattle.da_lang.specs.declared.tree.MessageDecl.{MessageDecl}
use Rattle.da_lang.specs.declared.program.SetupCall.{SetupCall}
use Rattle.da_lang.specs.declared.query.Query.{Query}
use Rattle.da_lang.specs.Typing.{Slots, Typed, args_fit, have_types, unless, breaks_in, call_breaks, class_breaks, filled, handler_breaks, item_breaks, least, type_breaks, type_fault}
use Rattle.da_types.specs.Telling.{telling}
use Rattle.da_types.proofs.TellingLaws.{telling-append, telling_is_least}

-- the lines of a program: those of its classes, and then those of `main`
pub told_program : (p : Program) → least (breaks_in p) ≡ telling (telling None (flat_map (class_breaks p.messages) p.classes)) (flat_map (λ d. call_breaks p.messages (slice_get p.classes d.class) d.setup) p.procs)
unfolding breaks_in
told_program p =
    sym (telling_is_least (flat_map (class_breaks p.messages) p.classes ++ flat_map (λ d. call_breaks p.messages (slice_get p.classes d.class) d.setup) p.procs))
    ∙ telling-append None (flat_map (class_breaks p.messages) p.classes) (flat_map (λ d. call_breaks p.messages (slice_get p.classes d.class) d.setup) p.procs)

-- the lines of a class: those of `setup`, of `run`, and of the handlers
pub told_class : (messages : List MessageDecl) (c : Class) (told : Option ℕ) →
    telling told (class_breaks messages c) ≡ telling (telling (telling told (flat_map (item_breaks messages c.queries c.slots) c.setup)) (flat_map (item_breaks messages c.queries c.slots) c.run)) (flat_map (handler_breaks messages c.queries c.slots) c.handlers)
told_class messages c told =
    let lines = item_breaks messages c.queries c.slots in
    telling-append told (flat_map lines (c.setup ++ c.run)) (flat_map (handler_breaks messages c.queries c.slots) c.handlers)
    ∙ ap (λ ls. telling (telling told ls) (flat_map (handler_breaks messages c.queries c.slots) c.handlers)) (flat_map-append lines c.setup c.run)
    ∙ ap (λ t. telling t (flat_map (handler_breaks messages c.queries c.slots) c.handlers)) (telling-append told (flat_map lines c.setup) (flat_map lines c.run))

none_least : (lines : List ℕ) → None ≡ least lines → lines ≡ []
none_least [] e = refl
none_least (line ∷ lines) e = cc

-- no line breaks a rule
pub typed_where_none : (p q : Program) → q ≡ filled p → None ≡ least (breaks_in q) → Typed p q
unfolding type_breaks
typed_where_none p q is none = record { keeps = ap breaks_in (sym is) ∙ none_least (breaks_in q) none; becomes = is }

pub keeps_where_none : (q : Program) → None ≡ least (breaks_in q) → breaks_in q ≡ []
keeps_where_none q none = none_least (breaks_in q) none

-- a line breaks a rule
pub refused_where_some : (p q : Program) (line : ℕ) → q ≡ filled p → Some line ≡ least (breaks_in q) → type_fault p ≡ Some line
unfolding type_breaks
refused_where_some p q line is some = ap (λ r. least (breaks_in r)) (sym is) ∙ sym some

-- where a line breaks a rule, the program does not become a typed one
pub none_typed : (p q r : Program) (line : ℕ) → q ≡ filled p → Some line ≡ least (breaks_in q) → Typed p r → ⊥
unfolding type_breaks
none_typed p q r line is some t = let e : Some line ≡ None = some ∙ ap (λ s. least (breaks_in s)) is ∙ ap least t.keeps in cc

-- the first of a list that is taken out
pub taken_out : {A : Type 0} (left : List A) (x : A) (rest : List A) → Some x ≡ slice_get left 0 → rest ≡ remove left 0 → left ≡ x ∷ rest
taken_out [] x rest first others = cc
taken_out (y ∷ left) x rest first others = cc

-- the line of `setup` of a process: of no class there is none; of a class it is reported unless its arguments fit
pub call_of_none : (messages : List MessageDecl) (o : Option Class) (call : Option SetupCall) (told : Option ℕ) → o ≡ None → told ≡ telling told (call_breaks messages o call)
unfolding telling
call_of_none messages None call told none = refl
call_of_none messages (Some c) call told none = cc

pub call_of_some : (messages : List MessageDecl) (o : Option Class) (c : Class) (s : Option SetupCall) (call : SetupCall) (holds : Bool) (told now : Option ℕ) → o ≡ Some c → s ≡ Some call
    → holds ≡ args_fit messages c c.params call.args → now ≡ telling told (unless call.line holds) → now ≡ telling told (call_breaks messages o s)
call_of_some messages o c s call holds told now class_is call_is fits step =
    step ∙ ap (λ h. telling told (unless call.line h)) fits
    ∙ sym (ap (λ x. telling told (call_breaks messages x (Some call))) class_is)
    ∙ sym (ap (λ y. telling told (call_breaks messages o y)) call_is)

-- no arguments are left; no types are left for a slot
pub no_args : (messages : List MessageDecl) (c : Class) (params : List ℕ) → args_fit messages c params [] ≡ true
no_args messages c [] = refl
no_args messages c (param ∷ params) = refl

pub no_types : (messages : List MessageDecl) (queries : List Query) (slots : Slots) (binds : List ℕ) → 0 < length binds → have_types messages queries slots binds [] ≡ false
no_types messages queries slots [] some = absurd (omega (arith, some))
no_types messages queries slots (b ∷ bs) some = refl

pub ruleset broken_rules = (told_program)

pub ruleset class_rules = (told_class)

pub ruleset top_rules = (typed_where_none, keeps_where_none, refused_where_some, none_typed)
