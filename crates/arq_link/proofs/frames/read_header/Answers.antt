use Rattle.std.proofs.Common.{◌≡◌, drop, rules}
use Rattle.arq_link.specs.Frames.{frame_bytes, frame_of_kind}
use Rattle.arq_link.proofs.FrameLaws.{acknowledgement_read, data_read, frame_of_none, frame_there, header_read, no_more}
use Rattle.arq_link.proofs.frames.read_header.Goals.{in-0, in-1}
use Rattle.arq_link.proofs.frames.read_header.Goals as goal

pub returns-in_err-rest-clause-is : goal.returns-in_err-rest-clause-is
returns-in_err-rest-clause-is c = rw c.from_residual.ensures (frame_of_none c.args.bytes.now (search rules))

pub returns-in_err-kind-clause-is : goal.returns-in_err-kind-clause-is
returns-in_err-kind-clause-is c = rw c.from_residual-in_err-kind.ensures (frame_of_none c.args.bytes.now (search rules))

pub returns-in_err-sender-clause-is : goal.returns-in_err-sender-clause-is
returns-in_err-sender-clause-is c = rw c.from_residual-in_err-sender.ensures (frame_of_none c.args.bytes.now (search rules))

pub returns-in_err-number-clause-is : goal.returns-in_err-number-clause-is
returns-in_err-number-clause-is c = rw c.from_residual-in_err-number.ensures (frame_of_none c.args.bytes.now (search rules))

pub returns-in_default-clause-is : goal.returns-in_default-clause-is
returns-in_default-clause-is c = frame_of_none c.args.bytes.now (search rules)

pub returns-in_default-2-clause-is : goal.returns-in_default-2-clause-is
returns-in_default-2-clause-is c = frame_of_none c.args.bytes.now (search rules)

-- the frame has these bytes
there : (c : goal.After-from_be_bytes-2)
    → c.args.bytes.now ≡ frame_bytes (frame_of_kind c.match-kind.kind c.from_be_bytes.result c.from_be_bytes-2.result (drop 14 c.args.bytes.now))
there c =
    let is = header_read c.args.bytes.now c.in_ok-rest.rest.now c.in_ok-kind.rest.now c.in_ok-sender.rest.now c.in_ok-number.payload.now
    c.in_ok-sender.sender.now c.in_ok-number.number.now
    c.in_ok-kind.kind.now c.from_be_bytes.result c.from_be_bytes-2.result c.type_inv.bytes
    c.in_ok-rest.ensures
    c.in_ok-kind.ensures.cases.0 c.in_ok-sender.ensures.cases c.from_be_bytes.ensures c.in_ok-number.ensures.cases c.from_be_bytes-2.ensures in
    elim c.match-kind.branch [
      | in-0 w ↦ data_read _ _ _ _ _ _ is w.in-0.is w.kind-is
      | in-1 w ↦ acknowledgement_read _ _ _ _ _ _ is w.in-1.is
          (no_more c.in_ok-number.payload.now w.is_empty.result w.is_empty.ensures w.if-is_empty.true) w.kind-is
    ]

pub returns-clause-exact : goal.returns-clause-exact
returns-clause-exact c = there c

pub returns-clause-is : goal.returns-clause-is
returns-clause-is c =
    frame_there c.args.bytes.now c.match-kind.kind c.from_be_bytes.result c.from_be_bytes-2.result (drop 14 c.args.bytes.now)
    c.from_be_bytes.type_inv c.from_be_bytes-2.type_inv (there c)
