-- The parts of classes that are equal but for types.
use Rattle.std.specs.Prelude.{◌≡◌, refl, ℕ, Bool, List, [], map, length, Option, Some, None, filter_map, position, unwrap_or, bytes_eq, suc}
use Rattle.std.proofs.Common.{◌∙◌, ap, ap₂}
use Rattle.da_lang.specs.declared.tree.ClassTree.{ClassTree}
use Rattle.da_lang.specs.declared.tree.Param.{Param}
use Rattle.da_lang.specs.declared.tree.Stmt.{Stmt}
use Rattle.da_lang.specs.declared.ty.Ty.{Ty}
use Rattle.da_lang.specs.BodyMeaning.{class_slots}
use Rattle.da_lang.specs.ClassParts.{Declared, Place, Body, body_in, bodies, bodies_where, variable_in, variables, is_setup, is_run, is_method, method_of, setup_of, run_of, params_if, stmts_if}
use Rattle.da_lang.specs.Deeds.{deeds}
use Rattle.da_lang.specs.ExprMeaning.{InSlot, numbered}
use Rattle.da_lang.specs.LabelNames.{all_deeds, labelled, labels_of, label_number}
use Rattle.untyped_laws.specs.Alike.{ParamsAlike, VariablesAlike, BodiesAlike, MembersAlike}
use Rattle.untyped_laws.specs.Beside.{Beside, Both}
use Rattle.untyped_laws.proofs.BesideLaws.{beside_length, beside_map, map_equal, flat_equal, beside_kept, beside_filter, both_find}

module _ (R : Option Ty → Option Ty → Type 0) where
  -- a body without its parameters
  abbrev pub bare : Body → Body
  bare b = record { place = b.place; params = []; stmts = b.stmts; line = b.line }

  body_made : Place → List Stmt → ℕ → Body
  body_made place stmts line = record { place = place; params = []; stmts = stmts; line = line }

  pub bare_equal : (x y : Body) → BodiesAlike R x y → bare x ≡ bare y
  unfolding body_made
  bare_equal x y m = ap₂ (λ p s. body_made p s x.line) m.place m.stmts ∙ ap (body_made y.place y.stmts) m.line

  pub param_names : (ps qs : List Param) → Beside (ParamsAlike R) ps qs → map (λ p. p.name) ps ≡ map (λ p. p.name) qs
  param_names ps qs all = map_equal (ParamsAlike R) (λ p. p.name) (λ p. p.name) (λ x y e. e.name) ps qs all

  pub param_types : (ps qs : List Param) → Beside (ParamsAlike R) ps qs → Beside R (map (λ p. Some p.ty) ps) (map (λ p. Some p.ty) qs)
  param_types ps qs all = beside_map (ParamsAlike R) R (λ p. Some p.ty) (λ p. Some p.ty) (λ x y e. e.ty) ps qs all

  -- of a body that may be missing
  pub params_both : (x y : Option Body) → Both (BodiesAlike R) x y → Beside (ParamsAlike R) (params_if x) (params_if y)
  params_both None None m = tt
  params_both None (Some y) m = absurd m
  params_both (Some x) None m = absurd m
  params_both (Some x) (Some y) m = m.params

  pub stmts_both : (x y : Option Body) → Both (BodiesAlike R) x y → stmts_if x ≡ stmts_if y
  stmts_both None None m = refl
  stmts_both None (Some y) m = absurd m
  stmts_both (Some x) None m = absurd m
  stmts_both (Some x) (Some y) m = m.stmts

  module _ (c d : ClassTree) (all : Beside (MembersAlike R) c.members d.members) where
    pub bodies_alike : Beside (BodiesAlike R) (bodies c) (bodies d)
    bodies_alike = beside_kept (MembersAlike R) (BodiesAlike R) body_in body_in (λ x y m. m.body) c.members d.members all

    pub variables_alike : Beside (VariablesAlike R) (variables c) (variables d)
    variables_alike = beside_kept (MembersAlike R) (VariablesAlike R) variable_in variable_in (λ x y m. m.variable) c.members d.members all

    pub as_many : length c.members ≡ length d.members
    as_many = beside_length (MembersAlike R) c.members d.members all

    pub variable_names : map (λ v. v.name) (variables c) ≡ map (λ v. v.name) (variables d)
    variable_names = map_equal (VariablesAlike R) (λ v. v.name) (λ v. v.name) (λ x y e. e.name) (variables c) (variables d) variables_alike

    pub variable_types : Beside R (map (λ v. Some v.ty) (variables c)) (map (λ v. Some v.ty) (variables d))
    variable_types = beside_map (VariablesAlike R) R (λ v. Some v.ty) (λ v. Some v.ty) (λ x y e. e.ty) (variables c) (variables d) variables_alike

    pub slots_equal : class_slots c ≡ class_slots d
    slots_equal = ap (λ names. numbered InSlot 1 names []) variable_names

    pub method_both : (name : List ℕ) → Both (BodiesAlike R) (method_of c name) (method_of d name)
    method_both name = both_find (BodiesAlike R) (λ b. is_method name b.place) (λ b. is_method name b.place) (λ x y m. ap (is_method name) m.place) (bodies c) (bodies d) bodies_alike

    pub setup_both : Both (BodiesAlike R) (setup_of c) (setup_of d)
    setup_both = both_find (BodiesAlike R) (λ b. is_setup b.place) (λ b. is_setup b.place) (λ x y m. ap is_setup m.place) (bodies c) (bodies d) bodies_alike

    pub run_both : Both (BodiesAlike R) (run_of c) (run_of d)
    run_both = both_find (BodiesAlike R) (λ b. is_run b.place) (λ b. is_run b.place) (λ x y m. ap is_run m.place) (bodies c) (bodies d) bodies_alike

    pub where_alike : (test : Place → Bool) → Beside (BodiesAlike R) (bodies_where test c) (bodies_where test d)
    where_alike test = beside_filter (BodiesAlike R) (λ b. test b.place) (λ b. test b.place) (λ x y m. ap test m.place) (bodies c) (bodies d) bodies_alike

    pub deeds_equal : all_deeds c ≡ all_deeds d
    deeds_equal = flat_equal (BodiesAlike R) (λ b. deeds b.stmts) (λ b. deeds b.stmts) (λ x y m. ap deeds m.stmts) (bodies c) (bodies d) bodies_alike

    pub labels_equal : labels_of c ≡ labels_of d
    labels_equal = ap (filter_map (λ e. labelled e.line e.does)) deeds_equal

    pub number_equal : (name : List ℕ) → label_number c name ≡ label_number d name
    number_equal name = ap (λ (ls : List Declared). suc (unwrap_or (position (λ l. bytes_eq l.0 name) ls) 0)) labels_equal
