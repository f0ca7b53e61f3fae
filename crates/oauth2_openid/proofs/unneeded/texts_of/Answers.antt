use Rattle.serde_json.specs.View.{items_view}
use Rattle.serde_json.proofs.Views.{view-Array}
use Rattle.oauth2_openid.proofs.Left.{texts_left, texts_memory}
use Rattle.oauth2_openid.proofs.unneeded.texts_of.Goals as goal

pub returns-in-Err : goal.returns-in-Err
returns-in-Err c =
    texts_memory c.args.name.now (items_view c.args.items.items) c.in-Err.error _ (rw c.as_slice.ensures.value at c.if-are_texts.ensures)
    (rw (view-Array c.args.items) at c.in-Err.ensures)

pub returns-else-are_texts : goal.returns-else-are_texts
returns-else-are_texts c = rw (view-Array c.args.items) (texts_left (items_view c.args.items.items) (rw c.as_slice.ensures.value at c.if-are_texts.ensures))
