-- The bodies of a class as code keeps them, and what is reported of their names.
use Rattle.std.specs.Prelude.{ℕ, List, [], ◌++◌, flat_map, Option, Some, None}
use Rattle.da_lang.specs.declared.tree.Param.{Param}
use Rattle.da_lang.specs.declared.tree.PatternTree.{PatternTree}
use Rattle.da_lang.specs.ClassParts as parts
use Rattle.da_lang.specs.ExprNames.{Role, Local, taken, pattern_part}
use Rattle.da_lang.specs.NameRules.{patterns_at, scope_refusals}
use Rattle.da_lang.specs.Scopes.{Scope, look}
use Rattle.da_bodies.specs.declared.bodies.Body.{Body}
use Rattle.da_bodies.specs.declared.bodies.Place.{Place}
use Rattle.da_bodies.specs.declared.bodies.Place.TheVariants as place
use Rattle.da_bodies.specs.Telling.{Refusal, telling}
use Rattle.da_bodies.specs.Told.{told_kinds, told_part, told_parts}
use Rattle.da_bodies.specs.Variables.{named_at, variables_at}

abbrev pub place_view : Place → parts.Place
place_view place.Setup = parts.InSetup
place_view place.Run = parts.InRun
place_view (place.Method name) = parts.InMethod name.now
place_view (place.Handler message from labels) = parts.InHandler message.now from.now labels.now

abbrev pub body_view : Body → parts.Body
body_view b = record { place = place_view b.place; params = b.params.now; stmts = b.stmts.now; line = b.line }

-- the variables of a handler's patterns, each at the line of its header
unfoldable pub place_variables : ℕ → parts.Place → List parts.Declared
place_variables line p = named_at line (flat_map (λ part. part.binds) (patterns_at p))

-- those of its two patterns
unfoldable pub sender_variables_at : ℕ → Option PatternTree → List parts.Declared
sender_variables_at line None = []
sender_variables_at line (Some p) = variables_at line p

unfoldable pub handler_variables_at : ℕ → PatternTree → Option PatternTree → List parts.Declared
handler_variables_at line message from = variables_at line message ++ sender_variables_at line from

-- parameters, the patterns of a handler, and a whole body
unfoldable pub told_params : ℕ → Scope Role → Option Refusal → List Param → Option Refusal
told_params line scope found params = told_kinds line found (flat_map (λ p. taken (look scope p.name)) params)

unfoldable pub told_place : ℕ → Scope Role → Option Refusal → parts.Place → Option Refusal
told_place line scope found p = told_parts line Local scope found (patterns_at p)

unfoldable pub told_sender : ℕ → Scope Role → Option Refusal → Option PatternTree → Option Refusal
told_sender line scope found None = found
told_sender line scope found (Some p) = told_part line Local scope found (pattern_part p)

unfoldable pub told_body : Scope Role → Option Refusal → parts.Body → Option Refusal
told_body scope found b = telling found (scope_refusals scope b)
