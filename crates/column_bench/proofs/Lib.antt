mod DataLaws
mod WorkLaws
mod CheckLaws
