use Rattle.std.proofs.Common.{◌≡◌, ◌∙◌, ap, map, subst, sym}
use Rattle.type_choice.specs.Looks.{by_form, cut_tokens, few_tokens_step, number_at, total}
use Rattle.type_choice.proofs.CountLaws.{tuple_is}
use Rattle.type_choice.proofs.sizes.form_tokens.Goals as goal

pub returns-in-Tuple : goal.returns-in-Tuple
returns-in-Tuple c =
    subst (λ form. c.more-in-Tuple.result ≡ by_form few_tokens_step (number_at c.args.tokens.now) form) (sym c.in-Tuple.is)
    (tuple_is (number_at c.args.tokens.now) c.in-Tuple.parts c.len.result c.commas.result c.total_tokens.result c.more-inner.result _ c.len.ensures c.commas.ensures
    (c.total_tokens.ensures ∙ ap (λ z. cut_tokens (total (map (number_at c.args.tokens.now) z))) c.as_slice.ensures) c.more-inner.ensures c.more-in-Tuple.ensures)
