-- The texts of a document are known: they are in order, and each text at a place of a value is one of them.
use Rattle.std.proofs.Common.{[]}
use Rattle.std.specs.List.Sorted.{IsStrictlySortedBy}
use Rattle.serde_json.specs.Data.{Data}
use Rattle.whips_lists.specs.Members.{Has}
use Rattle.whips_texts.specs.Texts.{IsInOrder}
use Rattle.whips_texts.specs.Dictionary.{with_document_sources, texts_of}
use Rattle.whips_canonical_laws.specs.Known.{KnowsDocument}
use Rattle.whips_text_laws.proofs.Ranked.{text_kept, order_kept}
use Rattle.whips_text_laws.proofs.Dictionary.{keeps_document_sources, keeps_document_views, adds_document_sources, adds_document_views}

none_in_order : IsInOrder []
unfolding IsStrictlySortedBy
none_in_order = tt

pub texts_in_order : (d : Data) → IsInOrder (texts_of d)
texts_in_order d = keeps_document_views IsInOrder order_kept (with_document_sources [] d) d (keeps_document_sources IsInOrder order_kept [] d none_in_order)

pub texts_known : (d : Data) → KnowsDocument (texts_of d) d
texts_known d =
    let ordered = texts_in_order d in (
      adds_document_sources (texts_of d) ordered [] d (λ t h. keeps_document_views (Has t) (text_kept t) (with_document_sources [] d) d h),
      adds_document_views (texts_of d) ordered (with_document_sources [] d) d (λ t h. h),
    )
