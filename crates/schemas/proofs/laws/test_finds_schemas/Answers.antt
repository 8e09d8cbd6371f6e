use Rattle.schemas.proofs.Admitted.{admits_schemas}
use Rattle.schemas.proofs.laws.test_finds_schemas.Goals as goal

pub returns : goal.returns
returns c = admits_schemas
