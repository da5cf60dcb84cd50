use Rattle.tlsgen_syntax.proofs.Gathered.{signs_of_set}
use Rattle.std.proofs.Common.{refl}
use Rattle.tlsgen_syntax.proofs.remarks.say.Goals as goal

pub returns-in_ok-push_lines : goal.returns-in_ok-push_lines
returns-in_ok-push_lines c = signs_of_set c.args.tokens.now.items c.args.at c.in-Some.token.now (record { kind = c.in-Some.token.now.kind; place = c.in-Some.token.now.place; remark = record { section = c.push_str.new.self; text = c.push_lines.new.out } }) c.in-Some.ensures.value refl
