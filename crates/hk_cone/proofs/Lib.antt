mod MarkLaws
mod CopyLaws
