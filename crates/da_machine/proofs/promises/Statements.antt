-- What types promise of the statements of a class of an accepted program.
use Rattle.std.specs.Prelude.{◌≡◌, refl, ℕ, suc, List, [], ◌∷◌, length, map, Some}
use Rattle.std.proofs.Common.{ap, sym, subst, inl}
use Rattle.std.proofs.lemmas.List.Elements.{All-head}
use Rattle.da_values.specs.declared.val.Val.{Val}
use Rattle.da_values.specs.Sets.{Has}
use Rattle.da_values.proofs.Members.{Has-map}
use Rattle.da_lang.specs.declared.program.Alt.{Alt}
use Rattle.da_lang.specs.declared.program.BindArg.{BindArg}
use Rattle.da_lang.specs.declared.program.Class.{Class}
use Rattle.da_lang.specs.declared.program.Item.{Item}
use Rattle.da_lang.specs.declared.program.ItemKind.{ItemKind}
use Rattle.da_lang.specs.declared.program.ItemKind.TheOpen as kind
use Rattle.da_lang.specs.declared.program.ItemKind.TheOpen.{ItemKind-F}
use Rattle.da_lang.specs.declared.program.ItemKind.TheVariants as it
use Rattle.da_lang.specs.declared.program.ItemKind.TheViews.{out-RBranch}
use Rattle.da_lang.specs.declared.program.Program.{Program}
use Rattle.da_lang.specs.declared.program.RBranch.{RBranch}
use Rattle.da_lang.specs.BodyMeaning.{item_at}
use Rattle.da_lang.specs.Queries.{least_row}
use Rattle.da_lang.specs.QueryTypes.{given, slot_type}
use Rattle.da_lang.specs.Shaped.{HasType, IsItemOf, IsLoop, IsOf}
use Rattle.da_lang.specs.Turns.{kind_of, slot_of_arg, value_of_arg}
use Rattle.da_lang.specs.Types.{element_of}
use Rattle.da_lang.specs.Typing.{has_type, known, typed}
use Rattle.da_types.specs.Constants.{exprs_in as typed_exprs_in}
use Rattle.da_types.specs.Sound.{IsSoundClass, bound_by, slots_bound_by}
use Rattle.da_types.proofs.shaped.Known.{IsWholeProgram}
use Rattle.da_types.proofs.shaped.Rules.{for_rule}
use Rattle.da_types.proofs.shaped.StatementValues.{added_fits, args_fit_params, assigned_fits, branch_row_fits, deleted_fits, output_whole, sent_fits}
use Rattle.da_types.proofs.shaped.StoreFacts.{exprs_typable}
use Rattle.da_types.proofs.totality.Awaits.{item_keeps}
use Rattle.da_types.proofs.totality.KindLaws.{holds_parts, is_typed_parts}
use Rattle.da_machine.specs.Conditions.{Takes}
use Rattle.da_machine.specs.Promises.{AllRead, BindsRow, Promised, exprs_in}
use Rattle.da_machine.proofs.promises.Reading.{all_typable_read}
use Rattle.da_machine.proofs.promises.Taking.{all_of, sendable, slot_takes, slot_takes_element, slots_take, slots_take_row}

same_exprs : (k : ItemKind-F ItemKind Alt Item RBranch) → typed_exprs_in k ≡ exprs_in k
same_exprs (kind.Assign s e) = refl
same_exprs (kind.Add s e) = refl
same_exprs (kind.Del s e) = refl
same_exprs (kind.Send m e) = refl
same_exprs (kind.Output e) = refl
same_exprs (kind.If branches other) = refl
same_exprs (kind.While e body) = refl
same_exprs (kind.For s e body) = refl
same_exprs (kind.Call args body) = refl
same_exprs (kind.Await alts timeout label) = refl
same_exprs (kind.Label label) = refl
same_exprs kind.Pass = refl

as_many : (args : List BindArg) → length (map value_of_arg args) ≡ length (map slot_of_arg args)
as_many [] = refl
as_many (a ∷ args) = ap suc (as_many args)

module _ (p : Program) (class : Class) (whole : IsWholeProgram p) (among : Has p.classes class) where
  -- the slots and queries of a statement's expressions are there
  pub statement_reads : (i : Item) → IsItemOf class i → AllRead class (exprs_in (kind_of i))
  statement_reads i stands = subst (AllRead class) (same_exprs (kind_of i)) (all_typable_read p class (typed_exprs_in (kind_of i)) (exprs_typable p class whole among i stands))

  -- the elements of a loop go into its slot
  pub loop_takes : (s line : ℕ) (x : Val) (left : List Val) (body : List Item) → IsLoop p class s (x ∷ left) body line → Takes p class s x
  loop_takes s line x left body loop =
      let i = item_at line (it.For s loop.over body) in
      let is : kind_of i ≡ kind.For s loop.over body = rw it.outs-For refl in
      let keeps = item_keeps p class whole.typed.keeps among i loop.stands in
      let (element, found, has) = holds_parts (given (typed p.messages class.queries class.slots loop.over).type_ element_of) (has_type p.messages class.queries class.slots s) (for_rule p.messages class.queries class.slots i keeps s loop.over body is) in
      let of_slot : HasType class s element = is_typed_parts (slot_type (known p.messages class.queries class.slots) s) element has in
      record { ty = element; slot = of_slot; fits = All-head (IsOf p element) x left (loop.elements element of_slot) }

  module _ (sound : IsSoundClass p class) (i : Item) (stands : IsItemOf class i) where
    branch_binds : (branches : List RBranch) (other : List Item) → kind_of i ≡ kind.If branches other → (b : RBranch) → Has branches b → BindsRow p class b
    branch_binds branches other is b h n finds =
        let bound : Has (bound_by (kind.If branches other)) (Some n, (out-RBranch b).binds) = subst (λ z. Has (bound_by (kind.If branches other)) (z, (out-RBranch b).binds)) finds (Has-map (λ c. ((out-RBranch c).found, (out-RBranch c).binds)) branches b h) in
        let asks = ((sound.items i stands).finds n (out-RBranch b).binds (subst (λ z. Has (bound_by z) (Some n, (out-RBranch b).binds)) (sym is) bound)).asks in (
          (asks.gens, asks.cond, asks.is),
          λ d knows. slots_take_row p class (out-RBranch b).binds (least_row class.queries n d) (λ row found. branch_row_fits p class d whole knows i stands branches other b n row is h finds found),
        )

    by_kind : (k : ItemKind-F ItemKind Alt Item RBranch) → kind_of i ≡ k → Promised p class k
    by_kind (kind.Assign s e) is = λ d v knows value. slot_takes p class s v (assigned_fits p class d whole knows i stands s e v is value)
    by_kind (kind.Add s e) is = λ d v knows value. slot_takes_element p class s v (added_fits p class d whole knows i stands s e v is value)
    by_kind (kind.Del s e) is = λ d v knows value. slot_takes_element p class s v (deleted_fits p class d whole knows i stands s e v is value)
    by_kind (kind.Send m e) is = λ d v knows value w goes small. sendable p v _ (sent_fits p class d whole knows i stands m e v w is value goes) small
    by_kind (kind.Output e) is = λ d v knows value. (let (ty, fits) = output_whole p class d whole knows i stands e v is value in record { ty = ty; fits = fits })
    by_kind (kind.If branches other) is = all_of (BindsRow p class) branches (branch_binds branches other is)
    by_kind (kind.Call args body) is = record {
      one_each = as_many args;
      distinct = (sound.items i stands).distinct (map slot_of_arg args) (subst (λ z. Has (slots_bound_by z) (map slot_of_arg args)) (sym is) (inl refl));
      takes = λ d vs knows values. slots_take p class (map slot_of_arg args) vs (args_fit_params p class d whole knows i stands args body vs is values);
    }
    by_kind _ is = tt

    -- its values are those that the store takes
    pub statement_promises : Promised p class (kind_of i)
    statement_promises = by_kind (kind_of i) refl
