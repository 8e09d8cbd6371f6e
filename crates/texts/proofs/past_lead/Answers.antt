use Rattle.std.proofs.Common.{rules}
use Rattle.texts.proofs.Shapes.{broken}
use Rattle.texts.proofs.past_lead.Goals as goal

pub returns-in_default : goal.returns-in_default
returns-in_default c =
    broken c.args.lead c.args.more.now (record {
      one = search rules;
      two = λ l u h. search rules;
      three = λ l u h. search rules;
      four = λ l u h. search rules;
    })
