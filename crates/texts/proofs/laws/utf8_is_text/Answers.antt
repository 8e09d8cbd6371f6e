use Rattle.texts.proofs.Found.{text_found}
use Rattle.texts.proofs.Spelled.{text_read}
use Rattle.texts.proofs.laws.utf8_is_text.Goals as goal

pub returns : goal.returns
returns c = λ bs. (text_found bs, text_read bs)
