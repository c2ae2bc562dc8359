pub mod SheetLabel
