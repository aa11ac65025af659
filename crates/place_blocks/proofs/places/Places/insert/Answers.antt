use Rattle.std.specs.Prelude.{◌≡◌, ℕ, List, insert}
use Rattle.std.proofs.Common.{ap, arith, length, ◌∙◌}
use Rattle.std.proofs.lemmas.Result.{on_err_weaker, on_ok_weaker}
use Rattle.place_blocks.specs.Blocks.{in_blocks}
use Rattle.place_blocks.proofs.places.Places.insert.Goals as goal

put_view : (old now new : List ℕ) (at place : ℕ) → old ≡ now → new ≡ insert old at place → new ≡ insert now at place
put_view old now new at place same put = put ∙ ap (λ zs. insert zs at place) same

same_view : (old now new : List ℕ) → old ≡ now → new ≡ old → new ≡ now
same_view old now new same kept = kept ∙ same

pub insert_place-requires-clause-at : goal.insert_place-requires-clause-at
insert_place-requires-clause-at c = omega (arith, c.requires, ap length c.self.view_is)

pub returns-clause-ok : goal.returns-clause-ok
returns-clause-ok c =
    on_ok_weaker c.insert_place.result
    (put_view (in_blocks c.self.inside.blocks.items) c.args.self.now (in_blocks c.insert_place.new.blocks.items) c.args.at c.args.place c.self.view_is) c.insert_place.ensures.ok

pub returns-clause-err : goal.returns-clause-err
returns-clause-err c =
    on_err_weaker c.insert_place.result
    (same_view (in_blocks c.self.inside.blocks.items) c.args.self.now (in_blocks c.insert_place.new.blocks.items) c.self.view_is) c.insert_place.ensures.err
