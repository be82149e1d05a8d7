mod FieldTexts
mod LineSteps
mod StorageOrder
mod Values
