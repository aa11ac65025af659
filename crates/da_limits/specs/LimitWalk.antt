-- What limits a member and a class exceed, in the order in which it is looked for.
use Rattle.std.specs.Prelude.{nat_lt, ◌&&◌, Bool, true, false, if◌then◌else◌, List, [], ◌∷◌, Option, option_to_list, IsSome}
use Rattle.std.specs.List.{list_any}
use Rattle.da_lang.specs.declared.refusal.LimitKind.TheVariants as limit
use Rattle.da_lang.specs.declared.tree.ClassTree.{ClassTree}
use Rattle.da_lang.specs.declared.tree.Member.{Member}
use Rattle.da_lang.specs.declared.tree.Member.TheVariants as member
use Rattle.da_lang.specs.declared.tree.Param.{Param}
use Rattle.da_lang.specs.declared.tree.PatternTree.{PatternTree}
use Rattle.da_lang.specs.declared.tree.Stmt.{Stmt}
use Rattle.da_lang.specs.ClassParts.{InMethod, method_of}
use Rattle.da_lang.specs.Limits.{line_if, wide, is_reached, most_variables, items_over, blocks_over, variables_over}
use Rattle.da_lang.specs.Written.{pattern_written, type_width}
use Rattle.da_limits.specs.LimitLines.{told_at, wide_lines, gen_lines}
use Rattle.da_bodies.specs.Telling.{LimitRefusal as Refusal}
use Rattle.da_limits.specs.Sizes.{sizes}

abbrev pub wide_params : List Param → Bool
wide_params ps = list_any (λ p. wide (type_width p.ty)) ps

abbrev pub wide_patterns : PatternTree → Option PatternTree → Bool
wide_patterns message from = list_any (λ p. wide (pattern_written p).widest) (message ∷ option_to_list from)

-- the statements of a body, which is reached or not
unfoldable pub stmts_told : Bool → List Stmt → Option Refusal → Option Refusal
stmts_told reached stmts found = told_at limit.Generators (told_at limit.Parts found (wide_lines (sizes stmts))) (if reached then gen_lines (sizes stmts) else [])

unfoldable pub many_in : Bool → List Stmt → Bool
many_in reached stmts = reached && list_any (λ d. nat_lt most_variables d.written.largest.variables) (sizes stmts)

unfoldable pub member_told : ClassTree → Member → Option Refusal → Option Refusal
member_told c (member.Var name ty line) found = told_at limit.Parts found (line_if (wide (type_width ty)) line)
member_told c (member.Setup params stmts line) found = stmts_told true stmts (told_at limit.Parts found (line_if (wide_params params) line))
member_told c (member.Run stmts line) found = stmts_told true stmts found
member_told c (member.Method name params stmts line) found = stmts_told (is_reached c (InMethod name)) stmts (told_at limit.Parts found (line_if (wide_params params) line))
member_told c (member.Receive message from labels stmts line) found = stmts_told true stmts (told_at limit.Parts found (line_if (wide_patterns message from) line))

-- a query in a member that is reached has too many variables
unfoldable pub member_many : ClassTree → Member → Bool
member_many c (member.Var name ty line) = false
member_many c (member.Setup params stmts line) = many_in true stmts
member_many c (member.Run stmts line) = many_in true stmts
member_many c (member.Method name params stmts line) = many_in (is_reached c (InMethod name)) stmts
member_many c (member.Receive message from labels stmts line) = many_in true stmts

unfoldable pub members_told : ClassTree → List Member → Option Refusal → Option Refusal
members_told c [] found = found
members_told c (m ∷ ms) found = members_told c ms (member_told c m found)

-- where a member is a method, there is a method of its name
abbrev pub IsKnown : ClassTree → Member → Type 0
IsKnown c (member.Method name params stmts line) = IsSome (method_of c name)
IsKnown c _ = Unit {0}

unfoldable pub class_told : ClassTree → Option Refusal → Option Refusal
class_told c found = told_at limit.Variables (told_at limit.Blocks (told_at limit.Items (members_told c c.members found) (items_over c)) (blocks_over c)) (variables_over c)
