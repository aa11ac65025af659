-- Prefixes of the actions that are due, and what has been told when memory is refused.
use Rattle.std.proofs.Common.{◌≡◌, ◌+◌, List, [], ◌++◌, take, drop, length, Option, Result, Ok, Err, refl, sym, ap, ◌∙◌, append_assoc, append-nil, take-append-drop}
use Rattle.std.proofs.Math.Seq.{take-append-add}
use Rattle.std.specs.Prelude.{OnErr}
use Rattle.da_lang.specs.declared.code.Instr.{Instr}
use Rattle.da_lang.specs.declared.event.Action.{Action}
use Rattle.da_machine.specs.declared.machine.Machine.{Machine}
use Rattle.da_machine.specs.Acts.{act}
use Rattle.da_machine.specs.Conditions.{Standing}
use Rattle.da_machine.specs.RunsTo.{Began, AddsPrefix, actions_of}

-- these actions were told, and so many are left of those that were due
abbrev pub IsPart : List Action → List Action → List Action → List Action → Type 0
IsPart old new due left = (told : List Action) × (new ≡ old ++ told) × (due ≡ told ++ left)

-- a prefix by its parts, and the parts of a prefix
pub part_prefix : (old new due left : List Action) → IsPart old new due left → AddsPrefix old new due
part_prefix old new due left (told, is, whole) =
    (length told + 0, is ∙ ap (λ l. old ++ l) (sym (ap (take (length told + 0)) whole ∙ take-append-add told left 0 ∙ append-nil told)))

pub prefix_part : (old new due : List Action) → AddsPrefix old new due → (left : List Action) × IsPart old new due left
prefix_part old new due (n, is) = (drop n due, (take n due, is, sym (take-append-drop n due)))

-- nothing was told yet
pub none_told : (old due : List Action) → IsPart old old due due
none_told old due = ([], sym (append-nil old), refl)

-- what was told, and then what was told of the rest
pub part_then : (old now new due left more : List Action) → IsPart old now due left → IsPart now new left more → IsPart old new due more
part_then old now new due left more (told, is, whole) (next, further, rest) =
    (told ++ next, further ∙ ap (λ l. l ++ next) is ∙ append_assoc old told next, whole ∙ ap (λ l. told ++ l) rest ∙ sym (append_assoc told next more))

-- a prefix of the rest after what was told
pub part_prefix_of : (old now new due left : List Action) → IsPart old now due left → AddsPrefix now new left → AddsPrefix old new due
part_prefix_of old now new due left part front =
    let (more, rest) = prefix_part now new left front in
    part_prefix old new due more (part_then old now new due left more part rest)

-- the whole rest after what was told
pub part_whole : (old now new due left : List Action) → IsPart old now due left → new ≡ now ++ left → new ≡ old ++ due
part_whole old now new due left (told, is, whole) rest = rest ∙ ap (λ l. l ++ left) is ∙ append_assoc old told left ∙ ap (λ l. old ++ l) (sym whole)

-- a prefix of what is due, where that is the same
pub prefix_as : (old new due other : List Action) → due ≡ other → AddsPrefix old new due → AddsPrefix old new other
prefix_as old new due other same (n, is) = (n, is ∙ ap (λ l. old ++ take n l) same)

-- nothing was added to the actions
pub same_prefix : (old new due : List Action) → new ≡ old → AddsPrefix old new due
same_prefix old new due same = part_prefix old new due due ([], same ∙ sym (append-nil old), refl)

-- all that was due was told
pub full_prefix : (old new due : List Action) → new ≡ old ++ due → AddsPrefix old new due
full_prefix old new due is = part_prefix old new due [] (due, is, sym (append-nil due))

-- a prefix of the first ones is one of all
pub prefix_before : (old new due rest : List Action) → AddsPrefix old new due → AddsPrefix old new (due ++ rest)
prefix_before old new due rest front =
    let (left, (told, is, whole)) = prefix_part old new due front in
    part_prefix old new (due ++ rest) (left ++ rest) (told, is, ap (λ l. l ++ rest) whole ∙ append_assoc told left rest)

pub nothing_new : (i : Option Instr) (m : Machine) (stands : Standing) (old new : List Action) → new ≡ old → Began i m stands old new
nothing_new i m stands old new same p class d is = same_prefix old new (actions_of (act class.queries i m d)) same

pub on_err : {A E : Type 0} (r : Result A E) (P : Type 0) → P → OnErr r P
on_err (Ok v) P holds = tt
on_err (Err e) P holds = holds
