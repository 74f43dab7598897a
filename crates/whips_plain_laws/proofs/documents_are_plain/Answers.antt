use Rattle.whips_plain_laws.proofs.Documents.{document_plain}
use Rattle.whips_plain_laws.proofs.documents_are_plain.Goals as goal

pub returns : goal.returns
returns c = document_plain
