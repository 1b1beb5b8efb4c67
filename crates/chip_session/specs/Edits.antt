-- The edits of the code, with their texts as lists of bytes (chosen by this project).
use Rattle.chip_session.specs.Session.{Edit, insert_line, replace_line, delete_line, insert_event, replace_event, delete_event}
use Rattle.chip_session.specs.declared.edit.Edit.{Edit as Borrowed}
use Rattle.chip_session.specs.declared.edit.Edit.TheVariants.{Insert, Replace, Delete, InsertKey, ReplaceKey, DeleteKey}

abbrev pub edit_of : Borrowed → Edit
edit_of (Insert line text) = insert_line line text.now
edit_of (Replace line text) = replace_line line text.now
edit_of (Delete line) = delete_line line
edit_of (InsertKey step key down) = insert_event step key down
edit_of (ReplaceKey step key down) = replace_event step key down
edit_of (DeleteKey step key) = delete_event step key
