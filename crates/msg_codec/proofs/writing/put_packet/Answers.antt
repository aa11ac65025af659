use Rattle.std.specs.Prelude.{◌++◌}
use Rattle.std.proofs.Common.{refl, sym}
use Rattle.da_values.specs.Value.{val_of}
use Rattle.msg_codec.specs.Packets.{mark, packet_bytes, value_bytes}
use Rattle.msg_codec.proofs.WriteLaws.{kept_front, on_err, on_ok, wrote}
use Rattle.msg_codec.proofs.writing.put_packet.Goals as goal

pub returns-clause-ok : goal.returns-clause-ok
returns-clause-ok c =
    let v = val_of c.args.v.now in
    let sender = wrote c.args.out.now c.append.new.self c.append-2.new.self mark c.to_be_bytes.result (mark ++ c.to_be_bytes.result) c.in_ok-append.ensures.ok refl c.in_ok-append-2.ensures.ok in
    let head = wrote c.args.out.now c.append-2.new.self c.append-3.new.self (mark ++ c.to_be_bytes.result) c.to_be_bytes-2.result (mark ++ c.to_be_bytes.result ++ c.to_be_bytes-2.result) sender refl c.in_ok-append-3.ensures.ok in
    on_ok _ _ c.put_value.result
    (wrote c.args.out.now c.append-3.new.self c.put_value.new.out (mark ++ c.to_be_bytes.result ++ c.to_be_bytes-2.result) (value_bytes v) (packet_bytes c.args.sender c.args.clock v) head
    (λ i. mark ++ sym c.to_be_bytes.ensures i ++ sym c.to_be_bytes-2.ensures i ++ value_bytes v)) c.put_value.ensures.ok

pub returns-clause-err : goal.returns-clause-err
returns-clause-err c =
    let sender = wrote c.args.out.now c.append.new.self c.append-2.new.self mark c.to_be_bytes.result (mark ++ c.to_be_bytes.result) c.in_ok-append.ensures.ok refl c.in_ok-append-2.ensures.ok in
    let head = wrote c.args.out.now c.append-2.new.self c.append-3.new.self (mark ++ c.to_be_bytes.result) c.to_be_bytes-2.result (mark ++ c.to_be_bytes.result ++ c.to_be_bytes-2.result) sender refl c.in_ok-append-3.ensures.ok in
    on_err _ _ c.put_value.result (kept_front c.args.out.now c.append-3.new.self c.put_value.new.out (mark ++ c.to_be_bytes.result ++ c.to_be_bytes-2.result) head) c.put_value.ensures.err
