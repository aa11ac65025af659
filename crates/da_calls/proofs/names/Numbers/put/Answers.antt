use Rattle.std.proofs.Common.{◌++◌, ap, ◌∙◌}
use Rattle.da_calls.specs.CallNames.{PutUnder}
use Rattle.da_calls.proofs.CallNames.{put_finds_copy, on_ok, on_err}
use Rattle.da_calls.proofs.names.Numbers.put.Goals as goal
use Rattle.da_calls.proofs.names.Numbers.put.Goals.{in-Ok-insert, in-Err-insert}

pub returns : goal.returns
returns c = elim c.match-insert.branch [
  | in-Ok-insert w ↦ on_ok _ (PutUnder c.args.name.now c.args.number c.args.self.now (record { map = c.insert.new.self }))
      (record { finds = put_finds_copy c.args.self.now.map c.insert.new.self _ _ _ (c.in-Ok.ensures.items ∙ ap (λ k. k ++ c.args.name.now) c.new-key.ensures.items) w.in-Ok-insert.ensures.updates })
  | in-Err-insert w ↦ on_err _ (PutUnder c.args.name.now c.args.number c.args.self.now (record { map = c.insert.new.self })) _ w.result-is
]
