use Rattle.lsp_server.proofs.message.json_of.Goals as goal

pub returns-in-Ok-clause-says : goal.returns-in-Ok-clause-says
returns-in-Ok-clause-says c = record { utf8 = c.in-Ok.ensures.ok.0; is = c.in-Ok.ensures.ok.1 }

pub returns-in-Err-clause-nothing : goal.returns-in-Err-clause-nothing
returns-in-Err-clause-nothing c = λ other utf8. c.in-Err.ensures.err (λ memory. other (c.no_json.ensures.1 memory)) utf8
