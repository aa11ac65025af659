-- Two lists of actions are compared: what is left of them decides.
use Rattle.std.specs.Prelude.{◌≡◌, List, ◌∷◌, ◌++◌}
use Rattle.std.proofs.Common.{sym, ap, ◌∙◌}
use Rattle.std.proofs.lemmas.Cmp.{tied_itself}
use Rattle.std.specs.declared.cmp.Ordering.TheVariants.{Equal}
use Rattle.da_values.specs.declared.val.Val.{Val}
use Rattle.da_values.specs.Order.{row_cmp}
use Rattle.da_values.specs.OrderLaws.{row_order}
use Rattle.da_lang.specs.declared.event.Action.{Action}

pub row_ties : (row : List Val) → row_cmp row row ≡ Equal
row_ties row = tied_itself row_order row

pub record Compared (trace told rest left : List Action) : Type 0 where
  pub back : (behind : List Action) → trace ≡ told ++ behind → rest ≡ left ++ behind
  pub forth : (behind : List Action) → rest ≡ left ++ behind → trace ≡ told ++ behind

pub compared_first : (trace told : List Action) → Compared trace told trace told
compared_first trace told = record { back = λ behind is. is; forth = λ behind is. is }

pub compared_on : (trace told rest left more others : List Action) (x y : Action) → Compared trace told rest left → rest ≡ x ∷ more → left ≡ y ∷ others → y ≡ x
    → Compared trace told more others
compared_on trace told rest left more others x y compared at_rest at_left same = record {
  back = λ behind is. (
      let whole : x ∷ more ≡ y ∷ (others ++ behind) = sym at_rest ∙ compared.back behind is ∙ ap (λ (l : List Action). l ++ behind) at_left in
      cc);
  forth = λ behind is. compared.forth behind
      (at_rest ∙ ap (λ (l : List Action). x ∷ l) is
      ∙ ap (λ (a : Action). a ∷ (others ++ behind)) (sym same) ∙ ap (λ (l : List Action). l ++ behind) (sym at_left));
}
