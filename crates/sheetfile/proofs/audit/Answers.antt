-- `sheetfile::audit` meets its contract: the pair file is read, its list must have a pair, and then the sheet is read beside it.
use Rattle.lines.proofs.Found.{handed_on}
use Rattle.sheetfile.proofs.Promises.{file_refused, list_turned, list_audited}
use Rattle.sheetfile.proofs.audit.Goals as goal

pub returns-in_err-head : goal.returns-in_err-head
returns-in_err-head c = rw (handed_on c.from_residual.ensures.1) (file_refused _ _ c.in_err-head.ensures.file)

pub returns-in_err-check_some_pair : goal.returns-in_err-check_some_pair
returns-in_err-check_some_pair c =
    rw (handed_on c.from_residual-in_err-check_some_pair.ensures.1) (list_turned _ _ c.in_ok-head.ensures.file _ c.in_err-check_some_pair.ensures)

pub returns : goal.returns
returns c = list_audited _ _ c.in_ok-head.ensures.file c.in_ok-check_some_pair.ensures c.list.ensures.value c.audit_list.ensures
