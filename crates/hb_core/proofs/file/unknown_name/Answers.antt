use Rattle.hb_core.proofs.file.unknown_name.Goals as goal

pub returns-in-Err-clause-place : goal.returns-in-Err-clause-place
returns-in-Err-clause-place c = λ r ts h. c.at.ensures r c.args.bytes.now ts h
