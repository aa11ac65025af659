use Rattle.std.specs.Prelude.{is_some, refl, Some}
use Rattle.std.specs.Option.{option_copied_mut}
use Rattle.std.proofs.Common.{ℕ, List, sym, ap, ◌∙◌, subst}
use Rattle.da_values.specs.Sets.{Has}
use Rattle.row_pool.specs.Index.{or_none}
use Rattle.row_pool.proofs.NumberLaws.{goes_by}
use Rattle.row_pool.proofs.index.take_one.Goals as goal

pub drop_key-requires : goal.drop_key-requires
drop_key-requires c = subst (λ (ks : List ℕ). Has ks c.args.key) (ap or_none (sym c.get_mut.ensures.value ∙ ap option_copied_mut c.in-Some.is)) c.requires

pub returns-in-Some : goal.returns-in-Some
returns-in-Some c =
    let there = sym c.get_mut.ensures.value ∙ ap option_copied_mut c.in-Some.is in
    goes_by _ c.args.index.now (c.get_mut.follows.lender c.drop_key.new.keys) c.args.mark c.args.key (Some c.drop_key.new.keys) ((c.get_mut.follows.holds c.drop_key.new.keys).3 (ap is_some there)) c.in-Some.keys.now
    c.drop_key.new.keys (ap or_none there) refl c.drop_key.ensures

pub returns-in-None : goal.returns-in-None
returns-in-None c = absurd (subst (λ (ks : List ℕ). Has ks c.args.key) (ap or_none (sym c.get_mut.ensures.value ∙ ap option_copied_mut c.in-None.is)) c.requires)
