-- `text_codes::code::put_sign` meets its contract.
use Rattle.text_codes.proofs.Coding.{wrote_sign}
use Rattle.text_codes.proofs.code.put_sign.Goals as goal

pub returns : goal.returns
returns c = rw c.in-Some.is (wrote_sign _ _ _ c.requires)
