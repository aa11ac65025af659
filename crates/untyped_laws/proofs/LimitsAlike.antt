-- The refusals by limits do not look at types, but for the number of parts of a tuple.
use Rattle.std.specs.Prelude.{◌≡◌, refl, suc, nat_lt, ◌||◌, ◌∷◌, map, drop, sum, Option, None, flat_map, filter, filter_map}
use Rattle.std.specs.List.{list_any}
use Rattle.std.proofs.Common.{◌∙◌, ap, ap₂}
use Rattle.da_lang.specs.declared.program.Class.{Class}
use Rattle.da_lang.specs.declared.refusal.LimitKind.TheVariants as limit
use Rattle.da_lang.specs.declared.tree.ClassTree.{ClassTree}
use Rattle.da_lang.specs.declared.tree.MessageDecl.{MessageDecl}
use Rattle.da_lang.specs.declared.tree.Tree.{Tree}
use Rattle.da_lang.specs.declared.ty.Ty.{Ty}
use Rattle.da_lang.specs.Calls.{called, leads}
use Rattle.da_lang.specs.ClassParts.{Place, InMethod, Body, Variable, bodies, variables}
use Rattle.da_lang.specs.Deeds.{deeds}
use Rattle.da_lang.specs.Limits.{most_classes, most_items, most_blocks, most_variables, most_generators, item_lists, item_count, item_depth, block_depth, is_root, root_calls, is_reached, reached_deeds, has_query, line_if, classes_over, processes_over, items_over, blocks_over, variables_over, generators_over, wide, wide_exprs, wide_patterns, wide_header, parts_in_body, parts_in_variable, parts_in_class, parts_in_message, parts_in_main, parts_over, limit_refusals}
use Rattle.da_lang.specs.Resolution.{resolved_class}
use Rattle.da_lang.specs.Scopes.{at_lines}
use Rattle.da_lang.specs.Written.{greatest, type_width}
use Rattle.untyped_laws.specs.Alike.{TypesAlike, ParamsAlike, VariablesAlike, BodiesAlike, MembersAlike, ClassesAlike, MessagesAlike, TreesAlike, ResolvedAlike}
use Rattle.untyped_laws.specs.Beside.{Beside}
use Rattle.untyped_laws.specs.Laws.{KeepsWidth}
use Rattle.untyped_laws.proofs.BesideLaws.{beside_length, map_equal, flat_equal, any_equal, beside_drop, beside_filter}
use Rattle.untyped_laws.proofs.CallsAlike.{leads_equal}
use Rattle.untyped_laws.proofs.ListLaws.{join, any_same}
use Rattle.untyped_laws.proofs.MembersAlike.{bodies_alike, variables_alike}
use Rattle.untyped_laws.proofs.ResolvesAlike.{class_alike}

module _ (R : Option Ty → Option Ty → Type 0) where
  module _ (c d : ClassTree) (all : Beside (MembersAlike R) c.members d.members) where
    roots_equal : root_calls c ≡ root_calls d
    roots_equal =
        ap (filter_map (λ e. called e.does))
        (flat_equal (BodiesAlike R) (λ b. deeds b.stmts) (λ b. deeds b.stmts) (λ x y m. ap deeds m.stmts) (filter (λ b. is_root b.place) (bodies c)) (filter (λ b. is_root b.place) (bodies d))
        (beside_filter (BodiesAlike R) (λ b. is_root b.place) (λ b. is_root b.place) (λ x y m. ap is_root m.place) (bodies c) (bodies d) (bodies_alike R c d all)))

    reached_same : (place : Place) → is_reached c place ≡ is_reached d place
    reached_same (InMethod name) =
        any_same (λ call. leads c call name) (λ call. leads d call name) (λ call. leads_equal R c d all call name) (root_calls c) ∙ ap (list_any (λ call. leads d call name)) roots_equal
    reached_same _ = refl

    reached_equal : reached_deeds c ≡ reached_deeds d
    reached_equal =
        flat_equal (BodiesAlike R) (λ b. deeds b.stmts) (λ b. deeds b.stmts) (λ x y m. ap deeds m.stmts) (filter (λ b. is_reached c b.place) (bodies c)) (filter (λ b. is_reached d b.place) (bodies d))
        (beside_filter (BodiesAlike R) (λ b. is_reached c b.place) (λ b. is_reached d b.place) (λ x y m. reached_same x.place ∙ ap (is_reached d) m.place) (bodies c) (bodies d) (bodies_alike R c d all))

  lists_equal : (x y : Class) → ResolvedAlike R x y → item_lists x ≡ item_lists y
  lists_equal x y m = ap₂ (λ s rest. s ∷ rest) m.setup (ap₂ (λ run hs. run ∷ map (λ h. h.body) hs) m.run m.handlers)

  generators_equal : (c d : ClassTree) → ClassesAlike R c d → generators_over c ≡ generators_over d
  generators_equal c d m = ap (λ ds. map (λ e. e.line) (filter (has_query (λ s. nat_lt most_generators s.gens)) ds)) (reached_equal c d m.members)

  module _ (r : R None None) where
    items_equal : (c d : ClassTree) → ClassesAlike R c d → items_over c ≡ items_over d
    items_equal c d m = ap₂ (λ lists line. line_if (nat_lt most_items (sum (map (λ items. sum (map item_count items)) lists))) line) (lists_equal (resolved_class c) (resolved_class d) (class_alike R r c d m)) m.line

    blocks_equal : (c d : ClassTree) → ClassesAlike R c d → blocks_over c ≡ blocks_over d
    blocks_equal c d m =
        ap₂ (λ lists line. line_if (nat_lt most_blocks (greatest (map (λ items. block_depth (map item_depth items)) lists))) line) (lists_equal (resolved_class c) (resolved_class d) (class_alike R r c d m)) m.line

    variables_equal : (c d : ClassTree) → ClassesAlike R c d → variables_over c ≡ variables_over d
    variables_equal c d m =
        ap₂ (λ b line. line_if b line)
        (ap₂ (λ n ds. nat_lt most_variables n || list_any (has_query (λ s. nat_lt most_variables s.variables)) ds) (beside_length R (resolved_class c).slots (resolved_class d).slots (class_alike R r c d m).slots) (reached_equal c d m.members)) m.line

  module _ (keeps : KeepsWidth R) where
    header_equal : (x y : Body) → BodiesAlike R x y → wide_header x ≡ wide_header y
    header_equal x y m =
        ap₂ (λ p q. p || q) (any_equal (ParamsAlike R) (λ p. wide (type_width p.ty)) (λ p. wide (type_width p.ty)) (λ p q e. keeps p.ty q.ty e.ty) x.params y.params m.params) (ap wide_patterns m.place)

    body_equal : (x y : Body) → BodiesAlike R x y → parts_in_body x ≡ parts_in_body y
    body_equal x y m = join (ap₂ line_if (header_equal x y m) m.line) (ap (λ ss. map (λ e. e.line) (filter (λ e. wide_exprs e.says) (deeds ss))) m.stmts)

    variable_equal : (x y : Variable) → VariablesAlike R x y → parts_in_variable x ≡ parts_in_variable y
    variable_equal x y m = ap₂ line_if (keeps x.ty y.ty m.ty) m.line

    class_equal : (c d : ClassTree) → ClassesAlike R c d → parts_in_class c ≡ parts_in_class d
    class_equal c d m =
        join (flat_equal (VariablesAlike R) parts_in_variable parts_in_variable variable_equal (variables c) (variables d) (variables_alike R c d m.members))
        (flat_equal (BodiesAlike R) parts_in_body parts_in_body body_equal (bodies c) (bodies d) (bodies_alike R c d m.members))

    message_equal : (x y : MessageDecl) → MessagesAlike R x y → parts_in_message x ≡ parts_in_message y
    message_equal x y m =
        ap₂ line_if
        (ap₂ (λ n b. wide (suc n) || b) (beside_length (TypesAlike R) x.parts y.parts m.parts) (any_equal (TypesAlike R) (λ ty. wide (type_width ty)) (λ ty. wide (type_width ty)) keeps x.parts y.parts m.parts)) m.line

    parts_equal : (t u : Tree) → TreesAlike R t u → parts_over t ≡ parts_over u
    parts_equal t u m =
        join (join (flat_equal (MessagesAlike R) parts_in_message parts_in_message message_equal t.messages u.messages m.messages)
        (flat_equal (ClassesAlike R) parts_in_class parts_in_class class_equal t.classes u.classes m.classes)) (ap (flat_map parts_in_main) m.main)

  classes_equal : (t u : Tree) → TreesAlike R t u → classes_over t ≡ classes_over u
  classes_equal t u m = map_equal (ClassesAlike R) (λ c. c.line) (λ c. c.line) (λ x y e. e.line) (drop most_classes t.classes) (drop most_classes u.classes) (beside_drop (ClassesAlike R) most_classes t.classes u.classes m.classes)

  pub limits_same : R None None → KeepsWidth R → (t u : Tree) → TreesAlike R t u → limit_refusals t ≡ limit_refusals u
  unfolding limit_refusals
  limits_same r keeps t u m =
      join (join (join (join (join (join
      (ap (at_lines limit.Classes) (classes_equal t u m))
      (ap (λ ls. at_lines limit.Processes (processes_over 0 ls)) m.main))
      (ap (at_lines limit.Items) (flat_equal (ClassesAlike R) items_over items_over (items_equal r) t.classes u.classes m.classes)))
      (ap (at_lines limit.Blocks) (flat_equal (ClassesAlike R) blocks_over blocks_over (blocks_equal r) t.classes u.classes m.classes)))
      (ap (at_lines limit.Variables) (flat_equal (ClassesAlike R) variables_over variables_over (variables_equal r) t.classes u.classes m.classes)))
      (ap (at_lines limit.Parts) (parts_equal keeps t u m)))
      (ap (at_lines limit.Generators) (flat_equal (ClassesAlike R) generators_over generators_over generators_equal t.classes u.classes m.classes))
