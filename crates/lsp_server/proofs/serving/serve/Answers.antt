use Rattle.std.proofs.Common.{refl}
use Rattle.lsp_server.specs.declared.status.Status.TheVariants.{ReadFault, Spent, WriteFault}
use Rattle.lsp_server.proofs.CauseLemmas.{last_cause, no_rise, spent_read, spent_write, still_cause}
use Rattle.lsp_server.proofs.SessionLemmas.{led_begins, led_ends, led_on, led_spent}
use Rattle.lsp_server.proofs.serving.serve.Goals as goal

pub turns-init : goal.turns-init
turns-init g c =
    let left = g.S.Source.left c.args.source.now in
    let state = c.new-state.result in
    record {
      led = led_begins left (g.K.Sink.taken c.args.out.now) state.phase state.input c.new-state.ensures.phase (c.new-state.ensures.stream left);
      read = refl;
      write = refl;
    }

pub turns-preserved : goal.turns-preserved
turns-preserved g c = record {
  led = led_on (g.S.Source.left c.args.source.now) (g.K.Sink.taken c.args.out.now) (g.K.Sink.taken c.turns.out) (g.K.Sink.taken c.turn.new.out) c.turns.state.phase c.turn.new.state.phase c.turns.state.input c.turn.new.state.input
      (g.S.Source.left c.turns.source) (g.S.Source.left c.turn.new.source) c.turn.result c.in_default.is c.turns.invariant.led c.turn.ensures.turned;
  read = no_rise (g.S.Source.faults c.args.source.now) (g.S.Source.faults c.turns.source) (g.S.Source.faults c.turn.new.source) c.turn.result ReadFault c.turns.invariant.read c.in_default.is c.turn.ensures.read;
  write = no_rise (g.K.Sink.faults c.args.out.now) (g.K.Sink.faults c.turns.out) (g.K.Sink.faults c.turn.new.out) c.turn.result WriteFault c.turns.invariant.write c.in_default.is c.turn.ensures.write;
}

pub returns-in-Some-clause-served : goal.returns-in-Some-clause-served
returns-in-Some-clause-served g c =
    led_ends (g.S.Source.left c.args.source.now) (g.K.Sink.taken c.args.out.now) (g.K.Sink.taken c.turns.out) (g.K.Sink.taken c.turn.new.out) c.turns.state.phase c.turn.new.state.phase c.turns.state.input c.turn.new.state.input
    (g.S.Source.left c.turns.source) (g.S.Source.left c.turn.new.source) c.turn.result c.in-Some.status c.in-Some.is c.turns.invariant.led c.turn.ensures.turned

pub returns-in-Some-clause-read : goal.returns-in-Some-clause-read
returns-in-Some-clause-read g c =
    last_cause (g.S.Source.faults c.args.source.now) (g.S.Source.faults c.turns.source) (g.S.Source.faults c.turn.new.source) c.turn.result c.in-Some.status ReadFault c.turns.invariant.read c.in-Some.is c.turn.ensures.read

pub returns-in-Some-clause-write : goal.returns-in-Some-clause-write
returns-in-Some-clause-write g c =
    last_cause (g.K.Sink.faults c.args.out.now) (g.K.Sink.faults c.turns.out) (g.K.Sink.faults c.turn.new.out) c.turn.result c.in-Some.status WriteFault c.turns.invariant.write c.in-Some.is c.turn.ensures.write

pub returns-clause-served : goal.returns-clause-served
returns-clause-served g c =
    led_spent (g.S.Source.left c.args.source.now) (g.K.Sink.taken c.args.out.now) (g.K.Sink.taken c.turns.out) c.turns.state.phase c.turns.state.input (g.S.Source.left c.turns.source) c.turns.invariant.led

pub returns-clause-read : goal.returns-clause-read
returns-clause-read g c = still_cause (g.S.Source.faults c.args.source.now) (g.S.Source.faults c.turns.source) Spent ReadFault c.turns.invariant.read spent_read

pub returns-clause-write : goal.returns-clause-write
returns-clause-write g c = still_cause (g.K.Sink.faults c.args.out.now) (g.K.Sink.faults c.turns.out) Spent WriteFault c.turns.invariant.write spent_write
