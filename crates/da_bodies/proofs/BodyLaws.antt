-- What is reported of the names of a body, by what is reported of its parts.
use Rattle.std.specs.Prelude.{◌≡◌, refl, ℕ, ◌+◌, ◌-◌, ◌<◌, length, take, drop, Bool, true, false, List, [], ◌∷◌, ◌++◌, map, flat_map, Option, Some, None, option_to_list, bytes_eq}
use Rattle.std.specs.List.{list_any}
use Rattle.std.proofs.Common.{◌∙◌, sym, ap, get_or, append_assoc}
use Rattle.std.proofs.lemmas.List.{append-nil, map-append, take_more}
use Rattle.std.proofs.lemmas.Grind.{flat_map-append}
use Rattle.da_lang.specs.declared.refusal.ScopeKind.{ScopeKind}
use Rattle.da_lang.specs.declared.refusal.ScopeKind.TheVariants as refusal
use Rattle.da_lang.specs.declared.tree.Param.{Param}
use Rattle.da_lang.specs.declared.tree.PatternTree.{PatternTree}
use Rattle.da_lang.specs.ClassParts.{Declared, Place, InSetup, InRun, InMethod, InHandler, Body}
use Rattle.da_lang.specs.ExprNames.{Role, Local, Part, in_order, taken, pattern_part}
use Rattle.da_lang.specs.NameRules.{again, again_after, patterns_at, shadowed_params, doubled}
use Rattle.da_lang.specs.Scopes.{Scope, look, entered, at_line, at_lines}
use Rattle.da_lang.specs.StmtNames.{refused_in_body}
use Rattle.da_bodies.specs.BodyView.{place_variables, sender_variables_at, handler_variables_at, told_params, told_place, told_sender, told_body}
use Rattle.da_bodies.specs.Telling.{Refusal, telling}
use Rattle.da_bodies.specs.Told.{entered_each, after_part_of, told_kinds, told_part, told_parts}
use Rattle.da_bodies.specs.ToldStmts.{told_block}
use Rattle.da_bodies.specs.Variables.{named_at, variables_at}
use Rattle.da_bodies.proofs.PartLaws.{pattern_steady}
use Rattle.da_bodies.proofs.SameLook.{SameLook, same_each, entered_each-append}
use Rattle.da_bodies.proofs.TellingLaws.{telling-append}
use Rattle.da_bodies.proofs.ToldExprs.{pushed}
use Rattle.da_bodies.proofs.ToldParts.{told_kinds-nil, told_kinds-append, told_parts-nil, told_parts-cons, told_parts-one}
use Rattle.da_bodies.proofs.ToldLines.{told_block-same}

module _ (line : ℕ) where
  pub place_variables-Setup : place_variables line InSetup ≡ []
  unfolding place_variables
  place_variables-Setup = refl

  pub place_variables-Run : place_variables line InRun ≡ []
  unfolding place_variables
  place_variables-Run = refl

  pub place_variables-Method : (name : List ℕ) → place_variables line (InMethod name) ≡ []
  unfolding place_variables
  place_variables-Method name = refl

  sender_flat : (from : Option PatternTree) → named_at line (flat_map (λ (part : Part). part.binds) (map pattern_part (option_to_list from))) ≡ sender_variables_at line from
  unfolding sender_variables_at variables_at
  sender_flat None = refl
  sender_flat (Some p) = ap (named_at line) (append-nil (pattern_part p).binds)

  pub place_variables-Handler : (message : PatternTree) (from : Option PatternTree) (labels : List (List ℕ)) → place_variables line (InHandler message from labels) ≡ handler_variables_at line message from
  unfolding place_variables handler_variables_at variables_at
  place_variables-Handler message from labels =
      let one : List ℕ → Declared = λ name. (name, line) in
      map-append one (pattern_part message).binds (flat_map (λ (part : Part). part.binds) (map pattern_part (option_to_list from)))
      ∙ ap (λ ds. named_at line (pattern_part message).binds ++ ds) (sender_flat from)

  pub sender_variables-None : sender_variables_at line None ≡ []
  unfolding sender_variables_at
  sender_variables-None = refl

  pub sender_variables-Some : (p : PatternTree) → sender_variables_at line (Some p) ≡ variables_at line p
  unfolding sender_variables_at
  sender_variables-Some p = refl

after_here : (scope : Scope Role) (part : Part) → after_part_of Local scope part ≡ scope
unfolding after_part_of
after_here scope part = refl

module _ (line : ℕ) (scope : Scope Role) (found : Option Refusal) where
  pub told_place-Setup : told_place line scope found InSetup ≡ found
  unfolding told_place
  told_place-Setup = told_parts-nil line Local scope found

  pub told_place-Run : told_place line scope found InRun ≡ found
  unfolding told_place
  told_place-Run = told_parts-nil line Local scope found

  pub told_place-Method : (name : List ℕ) → told_place line scope found (InMethod name) ≡ found
  unfolding told_place
  told_place-Method name = told_parts-nil line Local scope found

  pub told_sender-None : told_sender line scope found None ≡ found
  unfolding told_sender
  told_sender-None = refl

  pub told_sender-Some : (p : PatternTree) → told_sender line scope found (Some p) ≡ told_part line Local scope found (pattern_part p)
  unfolding told_sender
  told_sender-Some p = refl

  pub told_place-Handler : (message : PatternTree) (from : Option PatternTree) (labels : List (List ℕ)) → told_place line scope found (InHandler message from labels) ≡ told_sender line scope (told_part line Local scope found (pattern_part message)) from
  unfolding told_place told_sender
  told_place-Handler message None labels = told_parts-one line Local scope found (pattern_part message)
  told_place-Handler message (Some p) labels =
      let f = told_part line Local scope found (pattern_part message) in
      told_parts-cons line Local scope found (pattern_part message) (pattern_part p ∷ []) (pattern_steady p, tt)
      ∙ told_parts-one line Local (after_part_of Local scope (pattern_part message)) f (pattern_part p)
      ∙ ap (λ s. told_part line Local s f (pattern_part p)) (after_here scope (pattern_part message))

pub ruleset place_rules = (place_variables-Setup, place_variables-Run, place_variables-Method, place_variables-Handler, told_place-Setup, told_place-Run, told_place-Method, told_place-Handler)

pub ruleset sender_rules = (sender_variables-None, sender_variables-Some, told_sender-None, told_sender-Some, append-nil)

-- parameters
pub told_params-nil : (line : ℕ) (scope : Scope Role) (found : Option Refusal) → told_params line scope found [] ≡ found
unfolding told_params
told_params-nil line scope found = told_kinds-nil line found

pub told_params-more : (line : ℕ) (scope : Scope Role) (first found last : Option Refusal) (ps : List Param) (i : ℕ) (p : Param) → i < length ps → p ≡ get_or ps i p → found ≡ told_params line scope first (take i ps) → last ≡ told_kinds line found (taken (look scope p.name)) → last ≡ told_params line scope first (take (i + 1) ps)
unfolding told_params
told_params-more line scope first found last ps i p within here told step =
    let kinds : Param → List ScopeKind = λ q. taken (look scope q.name) in
    let more : take (i + 1) ps ≡ take i ps ++ p ∷ [] = take_more ps i p within ∙ ap (λ q. take i ps ++ q ∷ []) (sym here) in
    step ∙ ap (λ f. told_kinds line f (kinds p)) told ∙ sym (told_kinds-append line first (flat_map kinds (take i ps)) (kinds p))
    ∙ ap (λ ks. told_kinds line first (flat_map kinds (take i ps) ++ ks)) (sym (append-nil (kinds p)))
    ∙ ap (told_kinds line first) (sym (flat_map-append kinds (take i ps) (p ∷ [])) ∙ ap (flat_map kinds) (sym more))

-- variables that are doubled
doubled_by : (line : ℕ) (before : List (List ℕ)) (n : List ℕ) (ns : List (List ℕ)) (b : Bool) → list_any (bytes_eq n) before ≡ b
    → at_line line (map (λ (l : ℕ). refusal.Shadow) (again_after (n ∷ before) (named_at line ns))) ≡ at_lines refusal.Shadow (again_after (n ∷ before) (named_at line ns))
    → at_line line (map (λ (l : ℕ). refusal.Shadow) (again_after before (named_at line (n ∷ ns)))) ≡ at_lines refusal.Shadow (again_after before (named_at line (n ∷ ns)))
doubled_by line before n ns true h same = rw h (ap (λ (rs : List Refusal). record { kind = refusal.Shadow; line = line } ∷ rs) same)
doubled_by line before n ns false h same = rw h same

doubled_at : (line : ℕ) (before : List (List ℕ)) (ns : List (List ℕ)) → at_line line (map (λ (l : ℕ). refusal.Shadow) (again_after before (named_at line ns))) ≡ at_lines refusal.Shadow (again_after before (named_at line ns))
doubled_at line before [] = refl
doubled_at line before (n ∷ ns) = doubled_by line before n ns (list_any (bytes_eq n) before) refl (doubled_at line (n ∷ before) ns)

-- a whole body
same_locals : (scope : Scope Role) (ns ms : List (List ℕ)) → SameLook (entered Local (ns ++ ms) scope) (entered_each Local ms (entered_each Local ns scope))
same_locals scope ns ms = record { at = λ q. (same_each Local (ns ++ ms) scope).at q ∙ ap (λ s. look s q) (entered_each-append Local ns ms scope) }

pub told_body-parts : (scope : Scope Role) (found : Option Refusal) (b : Body) → told_body scope found b ≡ told_block (entered_each Local (flat_map (λ (part : Part). part.binds) (patterns_at b.place)) (entered_each Local (map (λ p. p.name) b.params) scope)) (told_place b.line scope (telling (told_params b.line scope found b.params) (at_lines refusal.Shadow (again (place_variables b.line b.place)))) b.place) b.stmts
unfolding told_body told_params told_place told_parts place_variables told_kinds told_block
told_body-parts scope found b =
    let at : ScopeKind → Refusal = λ kind. record { kind = kind; line = b.line } in
    let binds = flat_map (λ (part : Part). part.binds) (patterns_at b.place) in
    let kinds = shadowed_params scope b in
    let inner = in_order (patterns_at b.place) Local scope in
    let names = map (λ (p : Param). p.name) b.params in
    let rest = refused_in_body b.stmts (entered Local (names ++ binds) scope) in
    let split : at_line b.line (kinds ++ doubled b ++ inner) ≡ at_line b.line kinds ++ at_line b.line (doubled b) ++ at_line b.line inner =
    map-append at (kinds ++ doubled b) inner ∙ ap (λ rs. rs ++ at_line b.line inner) (map-append at kinds (doubled b)) in
    let first = telling found (at_line b.line kinds) in
    telling-append found (at_line b.line (kinds ++ doubled b ++ inner)) rest
    ∙ ap (λ rs. telling (telling found rs) rest) split
    ∙ ap (λ f. telling f rest) (telling-append found (at_line b.line kinds ++ at_line b.line (doubled b)) (at_line b.line inner) ∙ ap (λ f. telling f (at_line b.line inner)) (telling-append found (at_line b.line kinds) (at_line b.line (doubled b))))
    ∙ ap (λ rs. telling (telling (telling first rs) (at_line b.line inner)) rest) (doubled_at b.line [] binds)
    ∙ told_block-same (entered Local (names ++ binds) scope) (entered_each Local binds (entered_each Local names scope)) _ b.stmts (same_locals scope names binds)

names_named : (line : ℕ) (names : List (List ℕ)) → map (λ (d : Declared). d.0) (named_at line names) ≡ names
names_named line [] = refl
names_named line (n ∷ ns) = ap (λ ms. n ∷ ms) (names_named line ns)

pub place_names : (line : ℕ) (p : Place) → map (λ (d : Declared). d.0) (place_variables line p) ≡ flat_map (λ (part : Part). part.binds) (patterns_at p)
unfolding place_variables
place_names line p = names_named line (flat_map (λ (part : Part). part.binds) (patterns_at p))

pub left_body : (scope : Scope Role) (ns ms : List (List ℕ)) → drop (length (entered_each Local ms (entered_each Local ns scope)) - length scope) (entered_each Local ms (entered_each Local ns scope)) ≡ scope
left_body scope ns ms = ap (λ s. drop (length s - length scope) s) (sym (entered_each-append Local ns ms scope)) ∙ pushed Local (ns ++ ms) scope
