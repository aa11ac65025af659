use Rattle.std.proofs.Common.{◌≡◌, Ok, refl, ap, ◌∙◌, arith, length-drop}
use Rattle.std.proofs.lemmas.Result.{err_from_is_err_and}
use Rattle.da_values.specs.Tokens.{prepend, tokens}
use Rattle.da_values.proofs.ScanLemmas.{go_on, stopped, ended, front-within, front-some}
use Rattle.da_values.proofs.TokenLaws.{tokens-hold}
use Rattle.da_lex.proofs.AnswerLemmas.{fault-found}
use Rattle.da_lex.proofs.ScanFits.{step-fits}
use Rattle.da_lex.proofs.tokens.lex.Goals as goal

pub split_at-requires : goal.split_at-requires
split_at-requires c = omega (arith, c.in_ok-length.ensures.length, front-within c.loop-rest.rest.now (omega arith))

pub loop-rest-smaller : goal.loop-rest-smaller
loop-rest-smaller c = omega (arith, c.in_ok-length.ensures.length, front-some c.loop-rest.rest.now (omega arith), c.split_at.ensures.back, length-drop c.in_ok-length.length c.loop-rest.rest.now)

pub loop-rest-preserved : goal.loop-rest-preserved
loop-rest-preserved c =
    let (ts, stepped, grown) = c.in_ok-length.ensures.steps in
    record {
      fits = rw (c.split_at.ensures.back, length-drop, c.in_ok-length.ensures.length) (step-fits _ _ ts c.loop-rest.rest.now (omega arith) c.loop-rest.invariant.fits stepped);
      scanned = rw (c.split_at.ensures.back, c.in_ok-length.ensures.length) (go_on c.loop-rest.scanner.tokens ts _ _ _ c.loop-rest.rest.now _ (omega arith) stepped grown c.loop-rest.invariant.scanned);
    }

pub returns-in_err-length : goal.returns-in_err-length
returns-in_err-length c =
    let p = err_from_is_err_and c.from_residual-in_err-length.result c.from_residual-in_err-length.ensures.1 in
    rw (p.1, p.2) (record {
      ok = tt;
      text = tt;
      refused = fault-found _ _ (λ known. stopped c.loop-rest.scanner.tokens _ c.loop-rest.rest.now _ _ (omega arith) (c.in_err-length.ensures.steps known) c.loop-rest.invariant.scanned);
      order = tt;
      lines = tt;
      pieces = tt;
    })

pub returns-in_err-list : goal.returns-in_err-list
returns-in_err-list c =
    let p = err_from_is_err_and c.from_residual-in_err-list.result c.from_residual-in_err-list.ensures.1 in
    rw (p.1, p.2) (record {
      ok = tt;
      text = tt;
      refused = fault-found _ _ (λ known.
          ended c.loop-rest.scanner.tokens _ c.loop-rest.rest.now _ (omega arith) c.loop-rest.invariant.scanned ∙ ap (prepend c.loop-rest.scanner.tokens) (c.in_err-list.ensures known));
      order = tt;
      lines = tt;
      pieces = tt;
    })

pub returns : goal.returns
returns c =
    let (ts, is, made) = c.in_ok-list.ensures in
    let found : tokens c.args.text.now ≡ Ok c.in_ok-list.list =
    rw made (ended c.loop-rest.scanner.tokens _ c.loop-rest.rest.now _ (omega arith) c.loop-rest.invariant.scanned ∙ ap (prepend c.loop-rest.scanner.tokens) is) in
    let holds = tokens-hold c.args.text.now c.in_ok-list.list found in
    record { ok = found; text = refl; order = holds.rises; lines = holds.on_line; pieces = holds.stand; refused = tt }
